-- Each position in turn.
use mathlib.Core.Path.{◌≡◌}
use native.Mathlib.Omega.{arith}
use Rattle.card_records.proofs.bytes.length_byte.Goals as goal

pub returns-in-1 : goal.returns-in-1
returns-in-1 c = rw c.in-1.is c.low_byte.ensures

pub returns-in_default : goal.returns-in_default
returns-in_default c = let n = c.in_default.in_default-own.rest in
    let last : c.args.i ≡ 2 = omega (arith, n.0.1, n.1) in
    rw last c.high_byte.ensures
