use mathlib.Core.Path.{refl}
use Rattle.syntax.specs.Limits.{multiline_bit}
use Rattle.syntax.specs.Flags.{multiline}
use Rattle.syntax.proofs.flags.Flags.is_multiline.Goals as goal

pub returns : goal.returns
unfolding multiline multiline_bit
returns c = refl
