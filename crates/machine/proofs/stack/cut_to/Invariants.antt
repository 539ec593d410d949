use Prim.Native.Nat.{◌-◌}
use Rattle.machine.proofs.Frames.{Cutting}
use Rattle.machine.proofs.stack.cut_to.Given as goal

abbrev pub invariant-loop-i : goal.invariant-loop-i
invariant-loop-i l = Cutting l.initial.work l.height l.mark l.work l.h l.i
