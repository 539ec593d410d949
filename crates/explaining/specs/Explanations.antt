-- What an explanation tells.
-- docs/REFERENCE.md, 16.5, 18.3
use Rattle.std.specs.Prelude.{◌≡◌, List, ℕ, Result, Ok, Err}
use Rattle.syntax.specs.declared.Refusal.{Refusal}
use Rattle.syntax.specs.Tree.{Rule}
use Rattle.semantics.specs.States.{State}
use Rattle.semantics.specs.Answers.{matched, not_matched, exhausted, Answer, answer}
use Rattle.semantics.specs.Explanations.{failures, furthest, closest, marks}
use Rattle.semantics.specs.Calls.{over, ExplainOutcome, explain_fits, explain_unfit, explain_exhausted, explain_refused}
use Rattle.machine.specs.Theorem.{Stands}
use Rattle.explaining.specs.declared.Explanation.{Explanation}
use Rattle.explaining.specs.declared.Explanation.TheVariants.{Matched, NotMatched, Exhausted}
use Rattle.greatest.specs.Best.{failure_of}

-- what the code's answer means
unfoldable pub explanation_of : Result Explanation Refusal → ExplainOutcome
explanation_of (Ok (Matched steps)) = explain_fits steps
explanation_of (Ok (NotMatched steps far near)) = explain_unfit steps (failure_of far) (failure_of near)
explanation_of (Ok (Exhausted start steps)) = explain_exhausted start steps
explanation_of (Err why) = explain_refused why.place why.reason

-- The code's answer is this one of the rule x. Unless it is "not matched", the marks, which were `old`, are as they were; else as many of them are
-- written as there is room for.
abbrev pub Accounts : (subject : List ℕ) → Rule → (many : ℕ) (old new : List ℕ) → Explanation → Answer → Type 0
Accounts subject x many old new (Matched steps) a = (start : ℕ) × (t : State) × (a ≡ record { outcome = matched start t; steps = steps }) × (new ≡ old)
Accounts subject x many old new (NotMatched steps far near) a =
    (a ≡ record { outcome = not_matched; steps = steps }) × (failure_of far ≡ furthest (failures subject x)) × (failure_of near ≡ closest (failures subject x))
    × (new ≡ over (marks subject x (closest (failures subject x)) many) old)
Accounts subject x many old new (Exhausted start steps) a = (a ≡ record { outcome = exhausted start; steps = steps }) × (new ≡ old)

-- the same of each rule that stands compiled at the entry
abbrev pub Explains : (code subject : List ℕ) (many : ℕ) (old new : List ℕ) (entry budget : ℕ) → Explanation → Type 0
Explains code subject many old new entry budget o = (x : Rule) → Stands code x entry → Accounts subject x many old new o (answer subject x budget)

-- each rule that stands there is not matched, in so many steps
abbrev pub Unmatched : (code subject : List ℕ) (entry budget steps : ℕ) → Type 0
Unmatched code subject entry budget steps = (x : Rule) → Stands code x entry → answer subject x budget ≡ record { outcome = not_matched; steps = steps }
