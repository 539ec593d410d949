-- A check's answer is what its call returns, of a rule that a check can follow; of any other rule the call is refused.
use Rattle.std.specs.Prelude.{◌≡◌, refl, List, ℕ, Ok}
use Rattle.std.proofs.Common.{sym, ◌∙◌}
use Rattle.std.proofs.Math.Option.{none, some}
use Rattle.syntax.specs.declared.Reason.{Reason}
use Rattle.syntax.specs.Limits.{rule_area_need}
use Rattle.syntax.specs.Tree.{Rule}
use Rattle.syntax.specs.Reading.{names_of}
use Rattle.syntax.specs.Checkable.{uncheckable}
use Rattle.semantics.specs.NameIndex.{name_index}
use Rattle.semantics.specs.Calls.{Call, work_area_need, over, cleared, declined, leaving}
use Rattle.semantics.specs.Proposals.{Finding, a_reading, no_reading, exhausts, Check, check}
use Rattle.semantics.specs.Checks.{check_refused, check_returns, unless_uncheckable, check_rule}
use Rattle.frame.specs.Inputs.{Told}
use Rattle.frame.specs.Laws.Areas.{over_none}
use Rattle.checking.specs.declared.Verdict.{Verdict}
use Rattle.checking.specs.declared.Verdict.TheVariants.{Reading, Nothing, Exhausted}
use Rattle.checking.specs.Verdicts.{verdict_of, Reports}

returns-clear : (c : Call) (f : Finding) (steps : ℕ) → ((check_returns c f steps).rule_area ≡ cleared rule_area_need c.rule_area) × ((check_returns c f steps).work_area ≡ cleared (work_area_need c.budget) c.work_area) × ((check_returns c f steps).names ≡ over (name_index (names_of c.rule c.flags)) c.names)
unfolding check_returns leaving
returns-clear c (a_reading start t) steps = (refl, refl, refl)
returns-clear c no_reading steps = (refl, refl, refl)
returns-clear c (exhausts start) steps = (refl, refl, refl)

told-returns : (c : Call) (o : Verdict) (new : List ℕ) (a : Check) → Reports c.result_area new o a → Told (check_returns c a.finding a.steps) (verdict_of (Ok o)) new
unfolding check_returns leaving verdict_of
told-returns c (Reading steps) new a r = rw r.2 (record { outcome_is = refl; result_area_is = r.3 })
told-returns c (Nothing steps) new a r = rw r.0 (record { outcome_is = refl; result_area_is = r.1 ∙ sym (over_none c.result_area) })
told-returns c (Exhausted start steps) new a r = rw r.0 (record { outcome_is = refl; result_area_is = r.1 ∙ sym (over_none c.result_area) })

module _ (proposal : List ℕ) (c : Call) (x : Rule) where
  abbrev answer : Check
  answer = check c.subject x c.budget proposal

  -- a rule that a check cannot follow
  pub check-declines : (place : ℕ) (why : Reason) → uncheckable x ≡ some (place, why) → declined (check_refused place why) c ≡ check_rule proposal c x
  unfolding check_rule unless_uncheckable
  check-declines place why e = rw e

  module _ (followed : uncheckable x ≡ none) where
    answers : check_returns c answer.finding answer.steps ≡ check_rule proposal c x
    unfolding check_rule unless_uncheckable
    answers = rw followed

    -- after every answer the areas are clear, and the index is filled
    pub check-clears : ((check_rule proposal c x).rule_area ≡ cleared rule_area_need c.rule_area) × ((check_rule proposal c x).work_area ≡ cleared (work_area_need c.budget) c.work_area) × ((check_rule proposal c x).names ≡ over (name_index (names_of c.rule c.flags)) c.names)
    check-clears = rw (← answers) (returns-clear c answer.finding answer.steps)

    -- what is told of a rule's answer is what its call returns
    pub reports-told : (o : Verdict) (new : List ℕ) → Reports c.result_area new o answer → Told (check_rule proposal c x) (verdict_of (Ok o)) new
    reports-told o new r = rw (← answers) (told-returns c o new answer r)
