-- `low_half` meets its contract: the remainder is the definition's.
use mathlib.Core.Path.{refl}
use Rattle.semantics.specs.Batches.{low}
use Rattle.batch_lines.proofs.halves.low_half.Goals as goal

pub returns : goal.returns
unfolding low
returns c = refl
