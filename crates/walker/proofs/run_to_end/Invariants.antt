use Rattle.walker.proofs.Walking.{Walking}
use Rattle.walker.proofs.run_to_end.Given as goal

abbrev pub invariant-loop-head : goal.invariant-loop-head
invariant-loop-head l = Walking l.code l.sub l.initial.regs l.initial.work l.initial.head l.budget l.regs l.work l.rest l.head

abbrev pub decreases-loop-head : goal.decreases-loop-head
decreases-loop-head l = l.rest
