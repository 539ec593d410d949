-- The code computes what the definition says.
use mathlib.Core.Path.{refl}
use Rattle.index.specs.Index.{words, place_of}
use Rattle.index.proofs.index.place.Goals as goal

pub returns : goal.returns
unfolding place_of words
returns c = refl
