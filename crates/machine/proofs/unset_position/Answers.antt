-- The literal is the number that the definition computes to.
use mathlib.Core.Path.{refl}
use Rattle.syntax.specs.Limits.{unset}
use Rattle.machine.proofs.unset_position.Goals as goal

pub returns : goal.returns
unfolding unset
returns c = refl
