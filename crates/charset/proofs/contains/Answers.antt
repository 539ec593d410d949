-- `contains` meets its contract: the masks are remainders, so that what is read is bit `b % 32` of word `base + b / 32`.
use Prim.Native.Nat.{◌+◌, ◌/◌, ◌%◌, ◌^◌}
use native.Mathlib.Omega.{arith}
use lib.ListN.{get_or}
use lib.Seq.{get_or-drop}
use lib.Bits.{and_mask}
use Rattle.charset.specs.Class.{has}
use Rattle.charset.proofs.contains.Goals as goal

pub overflow_cast-result : goal.overflow_cast-result
overflow_cast-result c = omega (arith, and_mask c.args.b 5)

pub overflow_shr-result : goal.overflow_shr-result
overflow_shr-result c = omega (arith, and_mask c.args.b 5)

pub returns : goal.returns
unfolding has
returns c = let a = c.args in
    rw (and_mask a.b 5, and_mask (get_or a.words.now (a.base + a.b / 32) 0 / 2 ^ (a.b % 32)) 1, get_or-drop)
