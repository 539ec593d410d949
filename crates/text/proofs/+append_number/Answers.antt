-- The digits of the tenth are written by the call of itself, whose measure, the number, is less; the last digit is written behind them.
use native.Mathlib.Omega.{arith}
use Rattle.text.specs.Laws.Numbers.{length-small, length-large}
use Rattle.text.specs.Laws.Writing.{wrote_small, wrote_large}
use Rattle.text.proofs.+append_number.Goals as goal

pub append_byte-requires : goal.append_byte-requires
append_byte-requires t c = omega (arith, length-small c.args.n (omega arith))

pub returns-then-n-lt10 : goal.returns-then-n-lt10
returns-then-n-lt10 t c = let a = c.args in
    wrote_small a.out.now a.at a.n (omega arith) c.append_byte.ensures

pub append_number-behind-requires : goal.append_number-behind-requires
append_number-behind-requires t c = (omega arith, omega (arith, length-large c.args.n (omega arith)))

pub append_byte-requires-2 : goal.append_byte-requires-2
append_byte-requires-2 t c = let n = c.args.n in
    omega (arith, length-large n (omega arith), c.append_number-behind.ensures.ends, c.append_number-behind.auto.out)

pub returns : goal.returns
returns t c = let a = c.args in
    wrote_large a.out.now a.at a.n (omega arith) c.requires c.append_number-behind.ensures c.append_byte-2.ensures
