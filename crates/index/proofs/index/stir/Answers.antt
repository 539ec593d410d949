-- The code computes what the definition says.
use mathlib.Core.Path.{refl}
use Rattle.index.specs.Index.{words, factor, mix}
use Rattle.index.proofs.index.stir.Goals as goal

pub returns : goal.returns
unfolding mix factor words
returns c = refl
