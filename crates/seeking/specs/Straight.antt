-- The straight way of a start: nodes at which nothing else is left to try, each of them a step on the way to the next, up to one that fails.
use Rattle.std.specs.Prelude.{ℕ, suc, ◌≤◌, List}
use Rattle.openings.specs.Failing.{Fails}
use Rattle.seeking.specs.declared.straight.Seen.{Seen}
use Rattle.seeking.specs.declared.straight.Seen.TheVariants.{Missed, Next, Unknown}

-- what is seen of the node at pc, where the machine stands at a position
abbrev pub Means : (p sub : List ℕ) (pc at : ℕ) → Seen → Type 0
Means p sub pc at (Missed n) = (1 ≤ n) × Fails p sub at pc n
Means p sub pc at (Next next there) = (n : ℕ) → Fails p sub there next n → Fails p sub at pc (suc n)
Means p sub pc at Unknown = Unit {0}
