use Rattle.choosing.proofs.Going.{Going}
use Rattle.choosing.proofs.walking.walk_to.Given as goal

abbrev pub invariant-loop-head : goal.invariant-loop-head
invariant-loop-head l = Going l.code l.sub l.initial.regs l.initial.work l.initial.proposal l.initial.ways l.regs l.work l.proposal l.ways l.rest l.head l.log

abbrev pub decreases-loop-head : goal.decreases-loop-head
decreases-loop-head l = l.rest
