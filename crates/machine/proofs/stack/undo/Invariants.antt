use mathlib.Core.Path.{◌≡◌}
use Prim.Native.Nat.{◌≤◌}
use lib.ListN.{length}
use Rattle.machine.specs.Code.{Program}
use Rattle.machine.specs.Moves.{fall}
use Rattle.machine.specs.Words.{stack_of}
use Rattle.machine.specs.Ready.{StackFits}
use Rattle.machine.proofs.stack.undo.Given as goal

abbrev pub invariant-loop-h : goal.invariant-loop-h
invariant-loop-h l = (l.h ≤ l.height) ×
    (length l.regs ≡ length l.initial.regs) ×
    ((p : Program) → StackFits p (stack_of l.work l.height) → StackFits p (stack_of l.work l.h)) ×
    ((p : Program) → fall p l.regs (stack_of l.work l.h) ≡ fall p l.initial.regs (stack_of l.work l.height))

abbrev pub decreases-loop-h : goal.decreases-loop-h
decreases-loop-h l = l.h
