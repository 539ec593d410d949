-- What following a whole path promises: what `within` says of the path that is trodden, within the budget.
use Rattle.std.specs.Prelude.{◌≡◌, List, ℕ, take}
use Rattle.syntax.specs.Limits.{spans_length}
use Rattle.semantics.specs.States.{State}
use Rattle.semantics.specs.Proposals.{Trail, Finding, a_reading, no_reading, exhausts, Check, within}
use Rattle.following.specs.declared.Followed.{Followed}
use Rattle.following.specs.declared.Followed.TheVariants.{Arrived, Missed, Spent}
use Rattle.turns.specs.Turns.{Treads}

abbrev pub told : Finding → ℕ → Check
told f steps = record { finding = f; steps = steps }

-- what is found of a path within a budget, and the registers that are left
abbrev pub FollowedAs : (start budget : ℕ) → Trail → (regs : List ℕ) → Followed → Type 0
FollowedAs start budget path regs (Arrived at steps) = (s : State) × (within start budget path ≡ told (a_reading start s) steps) × (s.at ≡ at) × (s.spans ≡ take spans_length regs)
FollowedAs start budget path regs (Missed steps) = within start budget path ≡ told no_reading steps
FollowedAs start budget path regs Spent = within start budget path ≡ told (exhausts start) budget

-- of whatever path is trodden from there
abbrev pub Follows : (code sub : List ℕ) (entry start budget : ℕ) (choices before after : List ℕ) → Followed → Type 0
Follows code sub entry start budget choices before after r = (path : Trail) → Treads code sub entry start before choices path → FollowedAs start budget path after r
