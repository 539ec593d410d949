-- What a match tells.
-- docs/REFERENCE.md, 16.2, 18.3
use Rattle.std.specs.Prelude.{◌≡◌, List, ℕ, length}
use Rattle.syntax.specs.Limits.{row_length}
use Rattle.syntax.specs.Tree.{Rule}
use Rattle.semantics.specs.States.{State, row}
use Rattle.semantics.specs.Answers.{matched, not_matched, exhausted, Answer, answer}
use Rattle.semantics.specs.Calls.{over, MatchOutcome, match_matched, match_not_matched, match_exhausted, match_refused}
use Rattle.machine.specs.Theorem.{Stands}
use Rattle.finding.specs.declared.Outcome.{Outcome}
use Rattle.finding.specs.declared.Outcome.TheVariants.{Matched as Found, NotMatched as Missed, Exhausted as Spent, Refused as Denied}

-- what the code's answer means
unfoldable pub outcome_of : Outcome → MatchOutcome
outcome_of (Found steps) = match_matched steps
outcome_of (Missed steps) = match_not_matched steps
outcome_of (Spent start steps) = match_exhausted start steps
outcome_of (Denied why) = match_refused why.place why.reason

-- the code's answer is this one, and the result area, which was `old`, has its row
abbrev pub Reports : (old new : List ℕ) → Outcome → Answer → Type 0
Reports old new (Found steps) a = (start : ℕ) × (t : State) × (a ≡ record { outcome = matched start t; steps = steps }) × (new ≡ over (row start t) old) × (length (row start t) ≡ row_length)
Reports old new (Missed steps) a = (a ≡ record { outcome = not_matched; steps = steps }) × (new ≡ old)
Reports old new (Spent start steps) a = (a ≡ record { outcome = exhausted start; steps = steps }) × (new ≡ old)
Reports old new (Denied why) a = ⊥

-- the same of each rule that stands compiled at the entry
abbrev pub Finds : (code subject old new : List ℕ) (entry budget : ℕ) → Outcome → Type 0
Finds code subject old new entry budget o = (x : Rule) → Stands code x entry → Reports old new o (answer subject x budget)
