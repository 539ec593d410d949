-- `nowhere` meets its contract: the three zeros are those of the definition.
use mathlib.Core.Path.{refl}
use Rattle.semantics.specs.Explanations.{nowhere}
use Rattle.answers.proofs.explanations.nowhere.Goals as goal

pub returns : goal.returns
unfolding nowhere
returns c = refl
