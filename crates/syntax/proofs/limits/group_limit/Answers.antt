-- The constant is the number that the definition computes to.
use mathlib.Core.Path.{refl}
use Rattle.syntax.specs.Limits.{group_limit}
use Rattle.syntax.proofs.limits.group_limit.Goals as goal

pub returns : goal.returns
unfolding group_limit
returns c = refl
