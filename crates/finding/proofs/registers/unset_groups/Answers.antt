-- `unset_groups` meets its contract: the part of the first numbers is filled, and the others are as they were.
use Prim.Native.Nat.{◌*◌}
use mathlib.Core.Path.{refl}
use lib.Seq.{length-take-le}
use Rattle.syntax.specs.Limits.{unset}
use Rattle.finding.proofs.registers.unset_groups.Goals as goal

pub returns : goal.returns
unfolding unset
returns c = rw (c.fill.ensures.after (λ y h. h), length-take-le (2 * c.args.groups) c.args.regs.now c.requires) refl
