use mathlib.Core.Path.{refl}
use Rattle.syntax.specs.Limits.{ignore_case_bit}
use Rattle.syntax.specs.Flags.{ignore_case}
use Rattle.syntax.proofs.flags.Flags.ignores_case.Goals as goal

pub returns : goal.returns
unfolding ignore_case ignore_case_bit
returns c = refl
