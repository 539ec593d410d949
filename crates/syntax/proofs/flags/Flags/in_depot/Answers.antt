use mathlib.Core.Path.{refl}
use Rattle.syntax.specs.Limits.{depot_bit}
use Rattle.syntax.specs.Flags.{depot}
use Rattle.syntax.proofs.flags.Flags.in_depot.Goals as goal

pub returns : goal.returns
unfolding depot depot_bit
returns c = refl
