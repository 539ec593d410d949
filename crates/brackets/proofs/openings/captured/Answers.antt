-- The number is at most the most groups that a rule can have.
use native.Mathlib.Omega.{arith}
use Rattle.syntax.specs.Limits.{group_limit}
use Rattle.brackets.proofs.openings.captured.Goals as goal

pub overflow_add-number : goal.overflow_add-number
unfolding group_limit
overflow_add-number c = omega (arith, c.requires)
