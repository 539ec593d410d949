-- The rule of the proposals, which is held over all lines.
use Rattle.std.specs.Prelude.{List, ℕ, ◌≤◌}
use Rattle.syntax.specs.Limits.{budget_limit}
use Rattle.syntax.specs.Tree.{Rule}
use Rattle.machine.specs.Theorem.{Stands}

-- a rule stands compiled, and the budget is one that the work area is long enough for
pub record Holds (code : List ℕ) (entry budget : ℕ) : Type 0 where
  pub tree : Rule
  pub stands : Stands code tree entry
  pub budget_fits : budget ≤ budget_limit
