use mathlib.Core.Path.{◌≡◌}
use lib.ListN.{length}
use Rattle.failures.specs.Accounts.{marking}
use Rattle.failures.proofs.Trying.{Trying}
use Rattle.failures.proofs.marking.mark_start.Given as goal

abbrev pub invariant-loop-head : goal.invariant-loop-head
invariant-loop-head l = Trying l.code l.sub l.initial.regs l.initial.work l.entry l.begin l.budget (marking l.at) l.initial.marks l.marks l.regs l.work l.rest l.head × (length l.marks ≡ length l.initial.marks)

abbrev pub decreases-loop-head : goal.decreases-loop-head
decreases-loop-head l = l.rest
