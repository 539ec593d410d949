use Prim.Native.Nat.{suc, ◌-◌}
use lib.ListN.{length}
use Rattle.failures.proofs.Starts.{Walked}
use Rattle.failures.proofs.walking.walk_all.Given as goal

abbrev pub invariant-loop-begin : goal.invariant-loop-begin
invariant-loop-begin l = Walked l.code l.sub l.initial.regs l.initial.work l.entry l.budget l.initial.best l.regs l.work l.best l.begin

abbrev pub decreases-loop-begin : goal.decreases-loop-begin
decreases-loop-begin l = suc (length l.sub) - l.begin
