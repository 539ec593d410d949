-- What a match reports is what an explanation tells, and an explanation's answer is what its call returns.
use Rattle.std.specs.Prelude.{◌≡◌, refl, List, ℕ, Ok}
use Rattle.std.proofs.Common.{sym, ◌∙◌, subst}
use Rattle.syntax.specs.Limits.{rule_area_need}
use Rattle.syntax.specs.Tree.{Rule}
use Rattle.syntax.specs.Reading.{names_of}
use Rattle.semantics.specs.NameIndex.{name_index}
use Rattle.semantics.specs.States.{State}
use Rattle.semantics.specs.Answers.{Outcome, matched, not_matched, exhausted, Answer, answer}
use Rattle.semantics.specs.Calls.{Call, work_area_need, over, cleared, leaving, markable, explain_returns, explain_rule}
use Rattle.syntax.specs.declared.Refusal.{Refusal}
use Rattle.finding.specs.declared.Outcome.{Outcome as Matching}
use Rattle.finding.specs.declared.Outcome.TheVariants.{Matched as Found, NotMatched as Missed, Exhausted as Spent, Refused as Denied}
use Rattle.finding.specs.Outcomes.{Reports}
use Rattle.explaining.specs.declared.Explanation.{Explanation}
use Rattle.explaining.specs.declared.Explanation.TheVariants.{Matched, NotMatched, Exhausted}
use Rattle.frame.specs.Inputs.{Told}
use Rattle.explaining.specs.Explanations.{explanation_of, Accounts}
use Rattle.frame.specs.Laws.Areas.{over_none}

returns-clear : (c : Call) (x : Rule) (o : Outcome) (steps : ℕ) → ((explain_returns c x o steps).rule_area ≡ cleared rule_area_need c.rule_area) × ((explain_returns c x o steps).work_area ≡ cleared (work_area_need c.budget) c.work_area) × ((explain_returns c x o steps).names ≡ over (name_index (names_of c.rule c.flags)) c.names)
unfolding explain_returns leaving
returns-clear c x (matched start t) steps = (refl, refl, refl)
returns-clear c x not_matched steps = (refl, refl, refl)
returns-clear c x (exhausted start) steps = (refl, refl, refl)

-- after every answer the areas are clear, and the index is filled
pub explain-clears : (c : Call) (x : Rule) → ((explain_rule c x).rule_area ≡ cleared rule_area_need c.rule_area) × ((explain_rule c x).work_area ≡ cleared (work_area_need c.budget) c.work_area) × ((explain_rule c x).names ≡ over (name_index (names_of c.rule c.flags)) c.names)
unfolding explain_rule
explain-clears c x = let a = answer c.subject x c.budget in returns-clear c x a.outcome a.steps

-- From a match ----------------------------------------------------------------------

module _ (row row' : List ℕ) (o : Matching) (a : Answer) (r : Reports row row' o a) where
  pub matched-too : (steps : ℕ) → o ≡ Found steps → (start : ℕ) × (t : State) × (a ≡ record { outcome = matched start t; steps = steps })
  matched-too steps e = let z = subst (λ (y : Matching). Reports row row' y a) e r in (z.0, z.1, z.2)

  pub unmatched-too : (steps : ℕ) → o ≡ Missed steps → a ≡ record { outcome = not_matched; steps = steps }
  unmatched-too steps e = (subst (λ (y : Matching). Reports row row' y a) e r).0

  pub exhausted_too : (start steps : ℕ) → o ≡ Spent start steps → a ≡ record { outcome = exhausted start; steps = steps }
  exhausted_too start steps e = (subst (λ (y : Matching). Reports row row' y a) e r).0

  pub never-refused : (why : Refusal) → o ≡ Denied why → ⊥
  never-refused why e = subst (λ (y : Matching). Reports row row' y a) e r

-- To a call -------------------------------------------------------------------------

told : (c : Call) (x : Rule) (o : Explanation) (new : List ℕ) (a : Answer) → Accounts c.subject x (markable c) c.result_area new o a → Told (explain_returns c x a.outcome a.steps) (explanation_of (Ok o)) new
unfolding explain_returns leaving explanation_of
told c x (Matched steps) new a r = rw r.2 (record { outcome_is = refl; result_area_is = r.3 ∙ sym (over_none c.result_area) })
told c x (NotMatched steps far near) new a r = rw r.0 (record { outcome_is = rw (r.1, r.2); result_area_is = r.3 })
told c x (Exhausted start steps) new a r = rw r.0 (record { outcome_is = refl; result_area_is = r.1 ∙ sym (over_none c.result_area) })

-- what is told of a rule's answer is what its call returns
pub accounts-told : (c : Call) (x : Rule) (o : Explanation) (new : List ℕ) → Accounts c.subject x (markable c) c.result_area new o (answer c.subject x c.budget) → Told (explain_rule c x) (explanation_of (Ok o)) new
unfolding explain_rule
accounts-told c x o new r = told c x o new (answer c.subject x c.budget) r
