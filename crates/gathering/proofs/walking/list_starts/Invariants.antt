use Prim.Native.Nat.{◌-◌}
use lib.ListN.{length}
use Rattle.gathering.proofs.Starts.{Turning}
use Rattle.gathering.proofs.walking.list_starts.Given as goal

abbrev pub invariant-loop-n : goal.invariant-loop-n
invariant-loop-n l = Turning l.code l.sub l.entry l.budget l.initial.regs l.initial.work l.initial.results l.regs l.work l.results l.start l.rows l.steps

abbrev pub decreases-loop-n : goal.decreases-loop-n
decreases-loop-n l = length l.sub - l.start
