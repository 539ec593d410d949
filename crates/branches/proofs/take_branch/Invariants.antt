use Prim.Native.Nat.{◌-◌}
use Rattle.branches.proofs.Branching.{Passing}
use Rattle.branches.proofs.take_branch.Given as goal

abbrev pub invariant-loop-used : goal.invariant-loop-used
invariant-loop-used l = Passing l.code l.sub l.initial.work l.m l.left l.work l.pc l.used

abbrev pub decreases-loop-used : goal.decreases-loop-used
decreases-loop-used l = l.left - l.used
