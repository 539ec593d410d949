-- What a match makes of the areas that it is lent: their lengths stay, and what stands in the rule area, the work area and the name index is not
-- looked at. So calls may follow one another in the same areas.
use Rattle.std.specs.Prelude.{◌≡◌, refl, List, [], ℕ, ◌+◌, ◌-◌, length, take, drop, replicate}
use Rattle.std.proofs.Math.Path.{ap}
use Rattle.std.proofs.Common.{◌∙◌, inl, inr, arith, take-append-drop, length-append, length-drop}
use Rattle.std.proofs.Math.Option.{Option, none, some}
use Rattle.syntax.specs.declared.Reason.{Reason}
use Rattle.syntax.specs.Limits.{rule_area_need, row_length}
use Rattle.syntax.specs.Read.{Read, sound, refused}
use Rattle.syntax.specs.Tree.{Rule}
use Rattle.syntax.specs.Reading.{names_of, reading}
use Rattle.semantics.specs.States.{row}
use Rattle.semantics.specs.NameIndex.{name_index}
use Rattle.semantics.specs.Answers.{Outcome, matched, not_matched, exhausted, answer}
use Rattle.semantics.specs.Calls.{Call, work_area_need, unacceptable, Return, over, untouched, declined, leaving, with_reading, unless_refused, call, MatchOutcome, match_refused, match_returns, match_rule, match_call}
use Rattle.semantics.specs.Demands.{Accepted, Written, Demand1, MatchAnswers}
use Rattle.semantics.specs.BatchDemands.{AlikeButLent}
use Rattle.semantics.proofs.Laws.Refusals.{found, none-exactly}
use Rattle.semantics.proofs.Laws.Calls.{verdict}
use Rattle.semantics.proofs.Laws.MatchCalls.{match-demand_1, match-answers}

-- Lengths -------------------------------------------------------------------------

written-length : (numbers before after : List ℕ) → Written numbers before after → length after ≡ length before
written-length numbers before after w =
    let n = length numbers in
    let l : length after ≡ length (take n after) + length (drop n after) = rw (← (length-append (take n after) (drop n after)), take-append-drop n after) refl in
    let a : length (take n after) ≡ n = ap length w.first in
    let b : length (drop n after) ≡ length before - n = ap length w.rest ∙ length-drop n before in
    omega (arith, w.fits)

module _ {A : Type 0} (refusal : ℕ → Reason → A) (need : ℕ) (c : Call) (x : Return A) (d : Demand1 refusal need c x) where
  pub areas-keep-length : (length x.rule_area ≡ length c.rule_area) × (length x.work_area ≡ length c.work_area)
  areas-keep-length = elim (found need c) [
    | inl z ↦ (written-length (replicate rule_area_need 0) c.rule_area x.rule_area (d.rule_area_zeroed z.1), written-length (replicate (work_area_need c.budget) 0) c.work_area x.work_area (d.work_area_zeroed z.1))
    | inr z ↦ (let u = d.areas_unchanged z.0 z.2.fault in (ap length u.0, ap length u.1))
  ]

  pub names-keep-length : length x.names ≡ length c.names
  names-keep-length = elim d.answers_or_refuses [
    | inl z ↦ written-length (name_index (names_of c.rule c.flags)) c.names x.names (d.index_filled z.0 z.1 z.2)
    | inr z ↦ ap length (d.index_unchanged z.0 z.1 ((d.refused_exactly z.0 z.1).1 z.2))
  ]

pub results-keep-length : (c : Call) → length (match_call c).result_area ≡ length c.result_area
results-keep-length c = elim (verdict row_length c) [
  | inl z ↦ of-answer (match-answers c z.0 z.1 z.2)
  | inr z ↦ (let d = match-demand_1 c in ap length (d.no_row_changed z.0 z.1 ((d.refused_exactly z.0 z.1).1 z.2)))
]
  where
    of-answer : {r : Rule} {groups : ℕ} → MatchAnswers c r groups (match_call c) → length (match_call c).result_area ≡ length c.result_area
    of-answer m = go m.answer.outcome refl
      where
        go : (o : Outcome) → m.answer.outcome ≡ o → length (match_call c).result_area ≡ length c.result_area
        go (matched n t) e = written-length (row n t) c.result_area (match_call c).result_area (m.when_matched n t e).1
        go not_matched e = ap length (m.when_not_matched e).1
        go (exhausted n) e = ap length (m.when_exhausted n e).1

-- What stands in them ------------------------------------------------------------------

module _ (c d : Call) (h : AlikeButLent c d) where
  abbrev Alike : Return MatchOutcome → Return MatchOutcome → Type 0
  Alike x y = (x.outcome ≡ y.outcome) × (x.result_area ≡ y.result_area)

  fit-alike : unacceptable row_length c ≡ unacceptable row_length d
  unfolding unacceptable
  fit-alike = rw (h.rule, h.flags, h.subject, h.budget, h.result_area, h.rule_area_size, h.work_area_size, h.names_size)

  return-alike : (o : Outcome) (steps : ℕ) → Alike (match_returns c o steps) (match_returns d o steps)
  unfolding match_returns leaving
  return-alike (matched n t) steps = (refl, ap (over (row n t)) h.result_area)
  return-alike not_matched steps = (refl, ap (over []) h.result_area)
  return-alike (exhausted n) steps = (refl, ap (over []) h.result_area)

  rule-alike : (r : Rule) → Alike (match_rule c r) (match_rule d r)
  unfolding match_rule
  rule-alike r = let e : answer c.subject r c.budget ≡ answer d.subject r d.budget = rw (h.subject, h.budget) in rw e (return-alike (answer d.subject r d.budget).outcome (answer d.subject r d.budget).steps)

  reading-alike : (x : Read (Rule × ℕ)) → Alike (with_reading match_refused row_length match_rule c x) (with_reading match_refused row_length match_rule d x)
  unfolding with_reading declined
  reading-alike (sound r at) = rule-alike r.0
  reading-alike (refused place why) = (refl, h.result_area)

  verdict-alike : (o : Option Reason) → Alike (unless_refused match_refused row_length match_rule c o) (unless_refused match_refused row_length match_rule d o)
  unfolding unless_refused untouched
  verdict-alike (some why) = (refl, h.result_area)
  verdict-alike none = let e : reading c.rule c.flags ≡ reading d.rule d.flags = rw (h.rule, h.flags) in rw e (reading-alike (reading d.rule d.flags))

  pub match-alike : Alike (match_call c) (match_call d)
  unfolding match_call call
  match-alike = rw fit-alike (verdict-alike (unacceptable row_length d))

  pub accepted-alike : (r : Rule) (groups : ℕ) → Accepted row_length d r groups → Accepted row_length c r groups
  accepted-alike r groups a = record { faultless = (none-exactly row_length c).0 (fit-alike ∙ (none-exactly row_length d).1 a.faultless); stop = a.stop; reads = rw (h.rule, h.flags) a.reads }
