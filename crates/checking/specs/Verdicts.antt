-- What a check of a rule that stands compiled tells.
use Rattle.std.specs.Prelude.{◌≡◌, List, ℕ, Result, Ok, Err, length}
use Rattle.syntax.specs.declared.Refusal.{Refusal}
use Rattle.syntax.specs.Limits.{row_length}
use Rattle.syntax.specs.Tree.{Rule}
use Rattle.semantics.specs.States.{State, row}
use Rattle.semantics.specs.Calls.{over}
use Rattle.semantics.specs.Checks.{CheckOutcome, check_reading, check_no_reading, check_exhausted, check_refused}
use Rattle.semantics.specs.Proposals.{a_reading, no_reading, exhausts, Check, check}
use Rattle.machine.specs.Theorem.{Stands}
use Rattle.checking.specs.declared.Verdict.{Verdict}
use Rattle.checking.specs.declared.Verdict.TheVariants.{Reading, Nothing, Exhausted}
use Rattle.following.specs.Paths.{told}

-- what the code's answer means
unfoldable pub verdict_of : Result Verdict Refusal → CheckOutcome
verdict_of (Ok (Reading steps)) = check_reading steps
verdict_of (Ok (Nothing steps)) = check_no_reading steps
verdict_of (Ok (Exhausted start steps)) = check_exhausted start steps
verdict_of (Err why) = check_refused why.place why.reason

-- the code's answer is this one, and the result area, which was `old`, has the reading's row
abbrev pub Reports : (old new : List ℕ) → Verdict → Check → Type 0
Reports old new (Reading steps) a = (start : ℕ) × (t : State) × (a ≡ told (a_reading start t) steps) × (new ≡ over (row start t) old) × (length (row start t) ≡ row_length)
Reports old new (Nothing steps) a = (a ≡ told no_reading steps) × (new ≡ old)
Reports old new (Exhausted start steps) a = (a ≡ told (exhausts start) steps) × (new ≡ old)

-- of each rule that stands compiled at the entry, what `check` says
abbrev pub Checks : (code subject proposal old new : List ℕ) (entry budget : ℕ) → Verdict → Type 0
Checks code subject proposal old new entry budget v = (x : Rule) → Stands code x entry → Reports old new v (check subject x budget proposal)
