use mathlib.Core.Path.{◌≡◌}
use Prim.Native.Nat.{◌/◌, ◌%◌}
use native.Mathlib.Omega.{arith}
use lib.Dec.{eqb}
use Rattle.syntax.specs.Limits.{dot_all_bit}
use Rattle.syntax.specs.Flags.{dot_all}
use Rattle.syntax.proofs.flags.Flags.dot_takes_all.Goals as goal

pub returns : goal.returns
unfolding dot_all dot_all_bit
returns c = let e : c.args.self.0 % 2 ≡ c.args.self.0 / 1 % 2 = omega arith in rw e
