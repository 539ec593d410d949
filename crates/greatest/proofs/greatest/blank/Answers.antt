-- The fields as they are written.
use mathlib.Core.Path.{refl}
use Rattle.semantics.specs.Explanations.{nowhere}
use Rattle.greatest.proofs.greatest.blank.Goals as goal

pub returns : goal.returns
unfolding nowhere
returns c = record { far = refl; near = refl }
