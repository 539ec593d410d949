-- Two bytes are below 256 each, so that their number is below 65,536.
use Prim.Native.Nat.{◌+◌}
use native.Mathlib.Omega.{arith}
use Rattle.card_format.proofs.two_bytes.Goals as goal

pub overflow_cast-low : goal.overflow_cast-low
overflow_cast-low c = omega (arith, c.type_inv.card c.args.at)

pub overflow_cast-high : goal.overflow_cast-high
overflow_cast-high c = omega (arith, c.type_inv.card (c.args.at + 1))

pub overflow_mul-result : goal.overflow_mul-result
overflow_mul-result c = omega (arith, c.type_inv.card (c.args.at + 1))

pub overflow_add-result : goal.overflow_add-result
overflow_add-result c = omega (arith, c.type_inv.card c.args.at, c.type_inv.card (c.args.at + 1))

pub returns : goal.returns
returns c = (omega arith, omega (arith, c.type_inv.card c.args.at, c.type_inv.card (c.args.at + 1)))
