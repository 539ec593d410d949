use mathlib.Core.Path.{refl}
use Rattle.syntax.specs.Limits.{extended_bit}
use Rattle.syntax.specs.Flags.{extended}
use Rattle.syntax.proofs.flags.Flags.is_extended.Goals as goal

pub returns : goal.returns
unfolding extended extended_bit
returns c = refl
