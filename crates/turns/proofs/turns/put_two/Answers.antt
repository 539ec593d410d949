-- `put_two` meets its contract: two stores.
use native.Mathlib.Omega.{arith}
use lib.ListN.{length-set}
use Rattle.turns.proofs.turns.put_two.Goals as goal

pub bounds-regs-i-2 : goal.bounds-regs-i-2
bounds-regs-i-2 c = simp length-set (omega arith)
