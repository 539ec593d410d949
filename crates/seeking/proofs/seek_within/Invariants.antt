use Prim.Native.Nat.{suc, ◌-◌}
use lib.ListN.{length}
use Rattle.seeking.proofs.Seeking.{Seeking}
use Rattle.seeking.proofs.seek_within.Given as goal

abbrev pub invariant-loop-begin : goal.invariant-loop-begin
invariant-loop-begin l = Seeking l.code l.subject l.initial.regs l.initial.work l.entry l.budget (record { cost = l.cost; any = l.any; set = l.set }) l.first l.before l.regs l.work l.begin l.steps

abbrev pub decreases-loop-begin : goal.decreases-loop-begin
decreases-loop-begin l = suc (length l.subject) - l.begin
