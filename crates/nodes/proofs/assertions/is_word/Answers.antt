-- `is_word` meets its contract: the masks are remainders, so that what is read is the byte's bit in its row.
use mathlib.Core.Path.{refl}
use Prim.Native.Nat.{◌/◌, ◌%◌, ◌^◌}
use native.Mathlib.Omega.{arith}
use lib.Bits.{and_mask}
use Rattle.nodes.proofs.assertions.is_word.Goals as goal

pub overflow_shr-result : goal.overflow_shr-result
overflow_shr-result c = omega (arith, and_mask c.args.b 5)

pub returns : goal.returns
returns c = let b = c.args.b in
    rw (and_mask b 5, and_mask (c.word_row-row.result / 2 ^ (b % 32)) 1) (c.word_row-row.ensures b refl)
