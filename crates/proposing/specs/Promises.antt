-- A proposal that is made: of each rule that stands compiled at the entry, the check of exactly these bytes on that subject gives a reading, with the row
-- that was asked for, in so many steps. By `check-stays-told` (`semantics`, CheckDemandsHold) every budget that has these steps gives the same.
use Rattle.std.specs.Prelude.{◌≡◌, List, ℕ, ◌≤◌, Result, IfOk, length, take}
use Rattle.syntax.specs.Tree.{Rule}
use Rattle.semantics.specs.States.{State, row}
use Rattle.semantics.specs.Proposals.{a_reading, check}
use Rattle.machine.specs.Theorem.{Stands}
use Rattle.following.specs.Paths.{told}
use Rattle.choosing.specs.declared.Unmade.{Unmade}
use Rattle.proposing.specs.declared.Proposal.{Proposal}

-- these bytes are accepted with this row, in so many steps
abbrev pub Accepted : (code subject wanted proposal : List ℕ) (entry budget steps : ℕ) → Type 0
Accepted code subject wanted proposal entry budget steps = (x : Rule) → Stands code x entry → (start : ℕ) × (t : State) × (check subject x budget proposal ≡ told (a_reading start t) steps) × (row start t ≡ wanted)

-- of bytes that are there already, all of them
abbrev pub Accepts : (code subject wanted proposal : List ℕ) (entry budget : ℕ) → Result Proposal Unmade → Type 0
Accepts code subject wanted proposal entry budget r = IfOk r (λ made. (made.bytes ≡ length proposal) × Accepted code subject wanted proposal entry budget made.steps)

-- of an area's first bytes
abbrev pub Proposes : (code subject wanted area : List ℕ) (entry budget : ℕ) → Result Proposal Unmade → Type 0
Proposes code subject wanted area entry budget r = IfOk r (λ made. (made.bytes ≤ length area) × Accepted code subject wanted (take made.bytes area) entry budget made.steps)
