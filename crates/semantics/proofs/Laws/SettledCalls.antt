-- The demands settle a call: of two returns that meet them, outcome, rows, index and areas are the same.
use Rattle.std.specs.Prelude.{◌≡◌, refl, List, ℕ, replicate}
use Rattle.std.proofs.Common.{ap, sym, ◌∙◌, inl, inr}
use Rattle.syntax.specs.declared.Reason.{Reason}
use Rattle.syntax.specs.Limits.{rule_area_need, row_length}
use Rattle.syntax.specs.Tree.{Rule}
use Rattle.syntax.specs.Reading.{names_of}
use Rattle.semantics.specs.NameIndex.{name_index}
use Rattle.semantics.specs.States.{row}
use Rattle.semantics.specs.Answers.{Outcome, matched, not_matched, exhausted, Answer, Ending, complete, full, exhausted_at, Listing}
use Rattle.semantics.specs.Explanations.{position, reach}
use Rattle.semantics.specs.Calls.{Call, work_area_need, Return, MatchOutcome, match_refused, ListOutcome, list_refused, joined, room, ExplainOutcome, explain_refused, markable}
use Rattle.semantics.specs.Demands.{Fault, Written, Regular, MatchAnswers, MatchDemands, TellsRows, ListAnswers, ListDemands, TellsWhy, ExplainAnswers, ExplainDemands}
use Rattle.semantics.specs.ScanDemands.{ScanAnswers, ScanDemands}
use Rattle.semantics.proofs.Laws.Refusals.{found}
use Rattle.semantics.proofs.Laws.Areas.{written_over}
use Rattle.semantics.proofs.Laws.Settled.{demand-2-settles, demand-3-settles}
use Rattle.semantics.proofs.Laws.SettledScans.{scan-demand-settles}
use Rattle.semantics.proofs.Laws.Explanations.{first-failure-once, marks-once}

written_once : (numbers before x y : List ℕ) → Written numbers before x → Written numbers before y → x ≡ y
written_once numbers before x y v w = written_over numbers before x v ∙ sym (written_over numbers before y w)

module _ {A : Type 0} where
  -- what a caller sees of the result
  abbrev pub Told : Return A → Return A → Type 0
  Told x y = (x.outcome ≡ y.outcome) × (x.result_area ≡ y.result_area)

  all-five : (x y : Return A) → x.rule_area ≡ y.rule_area → x.work_area ≡ y.work_area → x.names ≡ y.names → Told x y → x ≡ y
  all-five x y e f g t = rw (e, f, g, t.0, t.1)

  module _ {Named : ℕ → Reason → Type 0} {Passes : Rule → ℕ → Type 0} (refusal : ℕ → Reason → A) (need : ℕ) (c : Call) (x y : Return A)
      (v : Regular refusal (Fault need c) Named Passes c x) (w : Regular refusal (Fault need c) Named Passes c y) where
    areas-same : (x.rule_area ≡ y.rule_area) × (x.work_area ≡ y.work_area)
    areas-same = elim (found need c) [
      | inl z ↦ (written_once (replicate rule_area_need 0) c.rule_area x.rule_area y.rule_area (v.rule_area_zeroed z.1) (w.rule_area_zeroed z.1), written_once (replicate (work_area_need c.budget) 0) c.work_area x.work_area y.work_area (v.work_area_zeroed z.1) (w.work_area_zeroed z.1))
      | inr z ↦ (
          let p = v.areas_unchanged z.0 z.2.fault in
          let q = w.areas_unchanged z.0 z.2.fault in
          (p.0 ∙ sym q.0, p.1 ∙ sym q.1))
    ]

    index_same : x.names ≡ y.names
    index_same = elim v.answers_or_refuses [
      | inl z ↦ written_once (name_index (names_of c.rule c.flags)) c.names x.names y.names (v.index_filled z.0 z.1 z.2) (w.index_filled z.0 z.1 z.2)
      | inr z ↦ v.index_unchanged z.0 z.1 ((v.refused_exactly z.0 z.1).1 z.2) ∙ sym (w.index_unchanged z.0 z.1 ((w.refused_exactly z.0 z.1).1 z.2))
    ]

    -- it is enough that calls that pass are told alike
    pub returns-same : ((r : Rule) (groups : ℕ) → Passes r groups → Told x y) → x ≡ y
    returns-same f =
        let s = areas-same in
        let t : Told x y = elim v.answers_or_refuses [
          | inl z ↦ f z.0 z.1 z.2
          | inr z ↦ (
              let p = (v.refused_exactly z.0 z.1).1 z.2 in
              let q = (w.refused_exactly z.0 z.1).1 z.2 in
              (p ∙ sym q, v.no_row_changed z.0 z.1 p ∙ sym (w.no_row_changed z.0 z.1 q)))
        ] in
        all-five x y s.0 s.1 index_same t

module _ (c : Call) (r : Rule) (groups : ℕ) where
  match-told : (x y : Return MatchOutcome) → MatchAnswers c r groups x → MatchAnswers c r groups y → Told x y
  match-told x y v w = go v.answer.outcome refl
    where
      same : v.answer ≡ w.answer
      same = demand-2-settles c.subject r c.budget v.answer w.answer v.demand_2 w.demand_2

      outcome-too : (o : Outcome) → v.answer.outcome ≡ o → w.answer.outcome ≡ o
      outcome-too o e = ap (λ (a : Answer). a.outcome) (sym same) ∙ e

      go : (o : Outcome) → v.answer.outcome ≡ o → Told x y
      go (matched n t) e =
          let p = v.when_matched n t e in
          let q = w.when_matched n t (outcome-too (matched n t) e) in
          (cc (p.0, q.0, same), written_once (row n t) c.result_area x.result_area y.result_area p.1 q.1)
      go not_matched e =
          let p = v.when_not_matched e in
          let q = w.when_not_matched (outcome-too not_matched e) in
          (cc (p.0, q.0, same), p.1 ∙ sym q.1)
      go (exhausted n) e =
          let p = v.when_exhausted n e in
          let q = w.when_exhausted n (outcome-too (exhausted n) e) in
          (cc (p.0, q.0, same), p.1 ∙ sym q.1)

  -- of one listing all is told in one way
  rows_told : (x y : Return ListOutcome) (k l : Listing) → k ≡ l → TellsRows c groups k x → TellsRows c groups l y → Told x y
  rows_told x y k l same v w = (go k.ending refl, written_once (joined k.rows) c.result_area x.result_area y.result_area v.rows_written (rw same w.rows_written))
    where
      ending-too : (o : Ending) → k.ending ≡ o → l.ending ≡ o
      ending-too o e = ap (λ (m : Listing). m.ending) (sym same) ∙ e

      go : (o : Ending) → k.ending ≡ o → x.outcome ≡ y.outcome
      go complete e = cc (v.when_complete e, w.when_complete (ending-too complete e), same)
      go full e = cc (v.when_full e, w.when_full (ending-too full e), same)
      go (exhausted_at n) e = cc (v.when_exhausted n e, w.when_exhausted n (ending-too (exhausted_at n) e), same)

  list-told : (x y : Return ListOutcome) → ListAnswers c r groups x → ListAnswers c r groups y → Told x y
  list-told x y v w = rows_told x y v.listing w.listing (demand-3-settles c.subject r c.budget (room c.result_area) v.listing w.listing v.demand_3 w.demand_3) v.tells w.tells

  scan-told : (x y : Return ListOutcome) → ScanAnswers c r groups x → ScanAnswers c r groups y → Told x y
  scan-told x y v w = rows_told x y v.scan w.scan (scan-demand-settles c.subject r c.budget (room c.result_area) v.scan w.scan v.demand w.demand) v.tells w.tells

  -- a line that isn't matched is told in one way
  why-told : (steps : ℕ) (x y : Return ExplainOutcome) → TellsWhy c r steps x → TellsWhy c r steps y → Told x y
  why-told steps x y v w =
      let far = first-failure-once c.subject r position v.far w.far v.furthest w.furthest in
      let near = first-failure-once c.subject r reach v.near w.near v.closest w.closest in
      let marks = marks-once c.subject r v.near (markable c) v.marks w.marks v.marks_right (rw near w.marks_right) in
      (cc (v.told, w.told), written_once v.marks c.result_area x.result_area y.result_area v.marks_written (rw marks w.marks_written))

  explain-told : (x y : Return ExplainOutcome) → ExplainAnswers c r x → ExplainAnswers c r y → Told x y
  explain-told x y v w = go v.answer.outcome refl
    where
      same : v.answer ≡ w.answer
      same = demand-2-settles c.subject r c.budget v.answer w.answer v.demand_2 w.demand_2

      outcome-too : (o : Outcome) → v.answer.outcome ≡ o → w.answer.outcome ≡ o
      outcome-too o e = ap (λ (a : Answer). a.outcome) (sym same) ∙ e

      go : (o : Outcome) → v.answer.outcome ≡ o → Told x y
      go (matched n t) e =
          let p = v.when_matched n t e in
          let q = w.when_matched n t (outcome-too (matched n t) e) in
          (cc (p.0, q.0, same), p.1 ∙ sym q.1)
      go not_matched e = why-told v.answer.steps x y (v.when_not_matched e) (rw same (w.when_not_matched (outcome-too not_matched e)))
      go (exhausted n) e =
          let p = v.when_exhausted n e in
          let q = w.when_exhausted n (outcome-too (exhausted n) e) in
          (cc (p.0, q.0, same), p.1 ∙ sym q.1)

pub match-settles : (c : Call) (x y : Return MatchOutcome) → MatchDemands c x → MatchDemands c y → x ≡ y
match-settles c x y v w = returns-same match_refused row_length c x y v.demand_1 w.demand_1 (λ r groups a. match-told c r groups x y (v.answers r groups a) (w.answers r groups a))

pub list-settles : (c : Call) (x y : Return ListOutcome) → ListDemands c x → ListDemands c y → x ≡ y
list-settles c x y v w = returns-same list_refused row_length c x y v.demand_1 w.demand_1 (λ r groups a. list-told c r groups x y (v.answers r groups a) (w.answers r groups a))

pub scan-settles : (c : Call) (x y : Return ListOutcome) → ScanDemands c x → ScanDemands c y → x ≡ y
scan-settles c x y v w = returns-same list_refused row_length c x y v.demand_1 w.demand_1 (λ r groups a. scan-told c r groups x y (v.answers r groups a) (w.answers r groups a))

pub explain-settles : (c : Call) (x y : Return ExplainOutcome) → ExplainDemands c x → ExplainDemands c y → x ≡ y
explain-settles c x y v w = returns-same explain_refused 0 c x y v.demand_1 w.demand_1 (λ r groups a. explain-told c r groups x y (v.answers r groups a) (w.answers r groups a))
