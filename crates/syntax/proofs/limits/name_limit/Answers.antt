-- The constant is the number that the definition computes to.
use mathlib.Core.Path.{refl}
use Rattle.syntax.specs.Limits.{name_limit}
use Rattle.syntax.proofs.limits.name_limit.Goals as goal

pub returns : goal.returns
unfolding name_limit
returns c = refl
