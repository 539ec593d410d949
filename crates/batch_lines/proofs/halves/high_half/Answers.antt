-- `high_half` meets its contract: the quotient is the definition's.
use mathlib.Core.Path.{refl}
use Rattle.semantics.specs.Batches.{high}
use Rattle.batch_lines.proofs.halves.high_half.Goals as goal

pub returns : goal.returns
unfolding high
returns c = refl
