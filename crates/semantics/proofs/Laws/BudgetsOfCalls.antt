-- The calls at a larger budget. Neither is refused, so that both are answered by the same tree; and what they are answered stays (Laws.Budgets), or the one at the
-- smaller budget is exhausted. What a call leaves does not tell its budget but in the work area.
use Rattle.std.specs.Prelude.{◌≡◌, ◌⊎◌, ℕ, min, ◌≤◌, ◌<◌, get_or, drop}
use Rattle.std.proofs.Math.Path.{refl, ap, sym}
use Rattle.std.proofs.Common.{◌∙◌, arith}
use mathlib.Core.List.{List, []}
use Rattle.std.proofs.Math.Logic.{inl, inr}
use Rattle.std.proofs.Math.ListN.{length, take, length-append}
use Rattle.std.proofs.Math.Seq.{length-take-le}
use Rattle.syntax.specs.declared.Reason.{Reason}
use Rattle.syntax.specs.Limits.{subject_limit, row_length}
use Rattle.syntax.specs.Tree.{Rule}
use Rattle.semantics.specs.States.{Row, row}
use Rattle.semantics.specs.Answers.{Outcome, matched, not_matched, exhausted, Answer, answer, exhausted_at, Listing, listing}
use Rattle.semantics.specs.Explanations.{failures, furthest, closest, marks}
use Rattle.semantics.specs.Scans.{scan}
use Rattle.semantics.specs.Calls.{Call, Return, leaving, MatchOutcome, match_matched, match_not_matched, match_exhausted, match_refused, match_returns, match_rule, match_call, list_exhausted, list_refused, list_outcome, joined, room, list_returns, list_call, scan_call, explain_fits, explain_unfit, explain_exhausted, explain_refused, markable, explain_returns, explain_rule, explain_call}
use Rattle.semantics.specs.Batches.{lines_of, line_call, outcome_numbers, told, part_of, batch_refused, lineless, parts_need, batch_rule, batch_call}
use Rattle.semantics.specs.Demands.{In, Accepted, Demand1, rows_reported}
use Rattle.semantics.specs.BatchDemands.{part}
use Rattle.semantics.specs.Budgets.{ListingStays, with_budget, NotRefused, Same, MatchStays, RowsStay, ExplanationStays, LinesStay, OrderStays}
use Rattle.semantics.proofs.Laws.Cases.{clash, le-or}
use Rattle.semantics.proofs.Laws.Budgets.{answer-stays, listing-stays, scan-stays}
use Rattle.semantics.proofs.Laws.Refusals.{result_area-enough}
use Rattle.semantics.proofs.Laws.Areas.{rows-in-front, own-rows}
use Rattle.semantics.proofs.Laws.Calls.{call-answered}
use Rattle.semantics.proofs.Laws.MatchCalls.{match-demand_1}
use Rattle.semantics.proofs.Laws.ListCalls.{list-demand_1, list-is, list-rows}
use Rattle.semantics.proofs.Laws.ScanCalls.{scan-demand_1, scan-returns, scan-rows}
use Rattle.semantics.proofs.Laws.AgreeingCalls.{reported}
use Rattle.semantics.proofs.Laws.ExplainCalls.{explain-demand_1}
use Rattle.semantics.proofs.Laws.Parts.{part-numbers, part_of-line}
use Rattle.semantics.proofs.Laws.Batches.{batch-demand_1, line-accepted, parts-lineless, part-too-long, part-whole, batch-is}

-- Two calls, neither refused ------------------------------------------------------

module _ {A : Type 0} (refusal : ℕ → Reason → A) (need : ℕ) where
  tree_of : (c : Call) (x : Return A) → Demand1 refusal need c x → NotRefused refusal x → (r : Rule) × (groups : ℕ) × Accepted need c r groups
  tree_of c x h f = elim h.answers_or_refuses [ inl z ↦ z | inr z ↦ absurd (f z.0 z.1 ((h.refused_exactly z.0 z.1).1 z.2)) ]

  -- one tree answers both
  both-accepted : (c : Call) (budget : ℕ) (work_area : List ℕ) (x y : Return A) → Demand1 refusal need c x → Demand1 refusal need (with_budget budget work_area c) y → NotRefused refusal x → NotRefused refusal y
      → (r : Rule) × (groups : ℕ) × Accepted need c r groups × Accepted need (with_budget budget work_area c) r groups
  both-accepted c budget work_area x y h k f g =
      let a = tree_of c x h f in
      let b = tree_of (with_budget budget work_area c) y k g in
      (a.0, a.1, a.2, record { faultless = b.2.faultless; stop = a.2.stop; reads = a.2.reads })

module _ (c : Call) (budget : ℕ) (work_area : List ℕ) where
  abbrev d : Call
  d = with_budget budget work_area c

  leaves-same : {A : Type 0} (a : A) (numbers : List ℕ) → Same (leaving a numbers c) (leaving a numbers d)
  unfolding leaving
  leaves-same a numbers = record { outcome = refl; result_area = refl; rule_area = refl; names = refl }

  -- A match -------------------------------------------------------------------------

  match-same : (o : Outcome) (steps : ℕ) → Same (match_returns c o steps) (match_returns d o steps)
  unfolding match_returns
  match-same (matched n t) steps = leaves-same (match_matched steps) (row n t)
  match-same not_matched steps = leaves-same (match_not_matched steps) []
  match-same (exhausted n) steps = leaves-same (match_exhausted n steps) []

  match-cut : (o : Outcome) (steps start : ℕ) → o ≡ exhausted start → (match_returns c o steps).outcome ≡ match_exhausted start steps
  unfolding match_returns leaving
  match-cut o steps start e = rw e

  -- the same, or exhausted
  abbrev Kept : Return MatchOutcome → Return MatchOutcome → Type 0
  Kept x y = Same x y ⊎ ((start : ℕ) × (steps : ℕ) × (x.outcome ≡ match_exhausted start steps))

  rule-kept : c.budget ≤ budget → (r : Rule) → Kept (match_rule c r) (match_rule d r)
  unfolding match_rule
  rule-kept larger r =
      let a : Answer = answer c.subject r c.budget in
      elim (answer-stays c.subject r c.budget budget larger) [
        | inl e ↦ inl (rw e (match-same a.outcome a.steps))
        | inr z ↦ inr (z.0, a.steps, match-cut a.outcome a.steps z.0 z.1)
      ]

  match-kept : c.budget ≤ budget → (r : Rule) (groups : ℕ) → Accepted row_length c r groups → Accepted row_length d r groups → Kept (match_call c) (match_call d)
  unfolding match_call
  match-kept larger r groups a b = rw (call-answered match_refused row_length match_rule c r groups a, call-answered match_refused row_length match_rule d r groups b) (rule-kept larger r)

  kept-stays : (x y : Return MatchOutcome) → Kept x y → MatchStays x y
  kept-stays x y (inl s) = record { matched_stays = λ steps e. s; not_matched_stays = λ steps e. s }
  kept-stays x y (inr z) = record { matched_stays = λ steps e. absurd (clash (cc (e, z.2))); not_matched_stays = λ steps e. absurd (clash (cc (e, z.2))) }

  match-stays : c.budget ≤ budget → NotRefused match_refused (match_call c) → NotRefused match_refused (match_call d) → MatchStays (match_call c) (match_call d)
  match-stays larger f g =
      let z = both-accepted match_refused row_length c budget work_area (match_call c) (match_call d) (match-demand_1 c) (match-demand_1 d) f g in
      kept-stays (match_call c) (match_call d) (match-kept larger z.0 z.1 z.2 z.3)

  -- An explanation ------------------------------------------------------------------

  explain-same : (r : Rule) (o : Outcome) (steps : ℕ) → Same (explain_returns c r o steps) (explain_returns d r o steps)
  unfolding explain_returns markable
  explain-same r (matched n t) steps = leaves-same (explain_fits steps) []
  explain-same r not_matched steps =
      let l = failures c.subject r in
      leaves-same (explain_unfit steps (furthest l) (closest l)) (marks c.subject r (closest l) (min (length c.rule) (length c.result_area)))
  explain-same r (exhausted n) steps = leaves-same (explain_exhausted n steps) []

  explain-cut : (r : Rule) (o : Outcome) (steps start : ℕ) → o ≡ exhausted start → (explain_returns c r o steps).outcome ≡ explain_exhausted start steps
  unfolding explain_returns leaving
  explain-cut r o steps start e = rw e

  reasons-stay : c.budget ≤ budget → (r : Rule) → ExplanationStays (explain_rule c r) (explain_rule d r)
  unfolding explain_rule
  reasons-stay larger r =
      let a : Answer = answer c.subject r c.budget in
      elim (answer-stays c.subject r c.budget budget larger) [
        | inl e ↦ (let s = explain-same r a.outcome a.steps in rw e (record { fits_stays = λ steps q. s; unfit_stays = λ steps far near q. s }))
        | inr z ↦ (
            let q = explain-cut r a.outcome a.steps z.0 z.1 in
            record { fits_stays = λ steps e. absurd (clash (cc (e, q))); unfit_stays = λ steps far near e. absurd (clash (cc (e, q))) })
      ]

  explain-answered : c.budget ≤ budget → (r : Rule) (groups : ℕ) → Accepted 0 c r groups → Accepted 0 d r groups → ExplanationStays (explain_call c) (explain_call d)
  unfolding explain_call
  explain-answered larger r groups a b = rw (call-answered explain_refused 0 explain_rule c r groups a, call-answered explain_refused 0 explain_rule d r groups b) (reasons-stay larger r)

  explain-stays : c.budget ≤ budget → NotRefused explain_refused (explain_call c) → NotRefused explain_refused (explain_call d) → ExplanationStays (explain_call c) (explain_call d)
  explain-stays larger f g =
      let z = both-accepted explain_refused 0 c budget work_area (explain_call c) (explain_call d) (explain-demand_1 c) (explain-demand_1 d) f g in
      explain-answered larger z.0 z.1 z.2 z.3

  -- A listing, and successive matches ---------------------------------------------------

  list-cut : (k : Listing) (start : ℕ) → k.ending ≡ exhausted_at start → (list_returns c k).outcome ≡ list_exhausted start (length k.rows) k.steps
  unfolding leaving list_outcome
  list-cut k start e = rw e

  list-reports : (l : Listing) → rows_reported (list_returns d l).outcome ≡ length l.rows
  unfolding leaving
  list-reports l = reported l.ending (length l.rows) l.steps

  list_same : (k : Listing) → RowsStay (list_returns c k) (list_returns d k)
  list_same k =
      let s = leaves-same (list_outcome k.ending (length k.rows) k.steps) (joined k.rows) in
      record {
        complete_stays = λ rows steps e. s;
        full_stays = λ rows steps e. s;
        first_rows = λ start rows steps e. (rw (s.outcome ∙ e) (omega arith), rw s.result_area);
      }

  rows_stay : (k l : Listing) → ((x : Row) → In x k.rows → length x ≡ row_length) → ListingStays k l → RowsStay (list_returns c k) (list_returns d l)
  unfolding leaving
  rows_stay k l sizes (inl e) = rw e (list_same k)
  rows_stay k l sizes (inr z) =
      let cut = list-cut k z.start z.stopped in
      record {
        complete_stays = λ rows steps e. absurd (clash (cc (e, cut)));
        full_stays = λ rows steps e. absurd (clash (cc (e, cut)));
        first_rows = λ start rows steps e. (
            let q : rows ≡ length k.rows = cc (e, cut) in
            rw q (omega (arith, list-reports l, ap length z.rows, length-append k.rows z.later), rw z.rows (rows-in-front k.rows c.result_area sizes z.later ∙ sym (own-rows k.rows c.result_area sizes))));
      }

  module _ (larger : c.budget ≤ budget) where
    module _ (r : Rule) (groups : ℕ) (a : Accepted row_length c r groups) (b : Accepted row_length d r groups) where
      list-answered : RowsStay (list_call c) (list_call d)
      list-answered =
          let l : (steps : ℕ) → Listing = λ steps. listing c.subject r steps (room c.result_area) in
          rw (list-is c r groups a, list-is d r groups b) (rows_stay (l c.budget) (l budget) (λ x i. (list-rows c r groups a x i).size) (listing-stays c.subject r c.budget budget larger (room c.result_area)))

      scan-answered : RowsStay (scan_call c) (scan_call d)
      scan-answered =
          let l : (steps : ℕ) → Listing = λ steps. scan c.subject r steps (room c.result_area) in
          rw (scan-returns c r groups a, scan-returns d r groups b) (rows_stay (l c.budget) (l budget) (λ x i. (scan-rows c r groups a x i).size) (scan-stays c.subject r c.budget budget larger (room c.result_area)))

    list-stays : NotRefused list_refused (list_call c) → NotRefused list_refused (list_call d) → RowsStay (list_call c) (list_call d)
    list-stays f g =
        let z = both-accepted list_refused row_length c budget work_area (list_call c) (list_call d) (list-demand_1 c) (list-demand_1 d) f g in
        list-answered z.0 z.1 z.2 z.3

    matches-stay : NotRefused list_refused (scan_call c) → NotRefused list_refused (scan_call d) → RowsStay (scan_call c) (scan_call d)
    matches-stay f g =
        let z = both-accepted list_refused row_length c budget work_area (scan_call c) (scan_call d) (scan-demand_1 c) (scan-demand_1 d) f g in
        scan-answered z.0 z.1 z.2 z.3

-- A day's lines -----------------------------------------------------------------------

told_same : (x y : Return MatchOutcome) → Same x y → told y ≡ told x
unfolding told
told_same x y s = rw (s.outcome, s.result_area)

-- the part of a line that has one
part-in-turn : (c : Call) (lines : List (List ℕ)) (r : Rule) (groups : ℕ) → Accepted (parts_need lines) (lineless c) r groups → (i : ℕ) → i < length lines → part i (batch_rule lines (lineless c) r).result_area ≡ part_of c (get_or lines i []) (part i c.result_area)
unfolding batch_rule leaving
part-in-turn c lines r groups a i h = rw (parts-lineless c lines c.result_area) (part_of-line c lines c.result_area (result_area-enough (parts_need lines) (lineless c) a.faultless) i h)

module _ (c : Call) (budget : ℕ) (work_area : List ℕ) (larger : c.budget ≤ budget) (lines : List (List ℕ)) (r : Rule) (groups : ℕ)
    (a : Accepted (parts_need lines) (lineless c) r groups) (b : Accepted (parts_need lines) (lineless (with_budget budget work_area c)) r groups) where
  abbrev bigger : Call
  bigger = with_budget budget work_area c

  -- unless its match is exhausted; one that is too long is refused at every budget
  part_stays : (line there : List ℕ) → row_length ≤ length there → ¬ (get_or (drop row_length (part_of c line there)) 0 0 ≡ 2) → part_of bigger line there ≡ part_of c line there
  unfolding part_of outcome_numbers
  part_stays line there whole n =
      let results = take row_length there in
      let row-whole : row_length ≤ length results = omega (arith, length-take-le row_length there whole) in
      elim (le-or (length line) subject_limit) [
        | inl short ↦ elim (match-kept (line_call c line results) budget work_area larger r groups (line-accepted (parts_need lines) c a.faultless line results row-whole r groups a short) (line-accepted (parts_need lines) bigger b.faultless line results row-whole r groups b short)) [
          | inl s ↦ told_same (match_call (line_call c line results)) (match_call (line_call bigger line results)) s
          | inr z ↦ absurd (n (rw (part-numbers c line there whole, z.2) refl))
        ]
        | inr long ↦ part-too-long bigger lines r groups b line there whole long ∙ sym (part-too-long c lines r groups a line there whole long)
      ]

  parts_stay : LinesStay lines (batch_rule lines (lineless c) r) (batch_rule lines (lineless bigger) r)
  unfolding batch_rule leaving
  parts_stay = record {
    done = refl;
    each_line = λ i h n. (
        let p = part-in-turn c lines r groups a i h in
        let q = part-in-turn bigger lines r groups b i h in
        q ∙ part_stays (get_or lines i []) (part i c.result_area) (part-whole c lines r groups a i h) (λ k. n (rw p k)) ∙ sym p);
  }

module _ (c : Call) (budget : ℕ) (work_area : List ℕ) (larger : c.budget ≤ budget) where
  abbrev lines : List (List ℕ)
  lines = lines_of c.subject

  abbrev other : Call
  other = with_budget budget work_area c

  lines-answered : (r : Rule) (groups : ℕ) → Accepted (parts_need lines) (lineless c) r groups → Accepted (parts_need lines) (lineless other) r groups → LinesStay lines (batch_call c) (batch_call other)
  lines-answered r groups a b = rw (batch-is c r groups a, batch-is other r groups b) (parts_stay c budget work_area larger lines r groups a b)

  lines_stay : NotRefused batch_refused (batch_call c) → NotRefused batch_refused (batch_call other) → LinesStay lines (batch_call c) (batch_call other)
  lines_stay f g =
      let z = both-accepted batch_refused (parts_need lines) (lineless c) budget work_area (batch_call c) (batch_call other) (batch-demand_1 c) (batch-demand_1 other) f g in
      lines-answered z.0 z.1 z.2 z.3

-- Request n) ----------------------------------------------------------------------------

pub larger-budget : (c : Call) (budget : ℕ) (work_area : List ℕ) → c.budget ≤ budget → OrderStays c (with_budget budget work_area c)
larger-budget c budget work_area larger = record {
  a_match = match-stays c budget work_area larger;
  a_listing = list-stays c budget work_area larger;
  successive_matches = matches-stay c budget work_area larger;
  an_explanation = explain-stays c budget work_area larger;
  a_days_lines = lines_stay c budget work_area larger;
}
