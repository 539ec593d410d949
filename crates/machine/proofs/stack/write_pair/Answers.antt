-- `write_pair` meets its contract: the second store is within the registers, whose number the first leaves.
use native.Mathlib.Omega.{arith}
use lib.ListN.{length-set}
use Rattle.machine.proofs.stack.write_pair.Goals as goal

pub bounds-regs-i-2 : goal.bounds-regs-i-2
bounds-regs-i-2 c = simp length-set (omega arith)
