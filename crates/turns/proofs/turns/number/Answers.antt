-- `number` meets its contract: past the end there is 0.
use native.Mathlib.Omega.{arith}
use Rattle.turns.proofs.Turning.{past}
use Rattle.turns.proofs.turns.number.Goals as goal

pub returns : goal.returns
returns c = past c.args.code.now c.args.i (omega (arith, c.if-i-code.false))
