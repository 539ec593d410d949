use Rattle.walker.proofs.Stepping.{Stepping}
use Rattle.walker.proofs.walk.Given as goal

abbrev pub invariant-loop-head : goal.invariant-loop-head
invariant-loop-head l = Stepping l.code l.sub l.initial.regs l.initial.work l.initial.head l.left l.regs l.work l.rest l.head

abbrev pub decreases-loop-head : goal.decreases-loop-head
decreases-loop-head l = l.rest
