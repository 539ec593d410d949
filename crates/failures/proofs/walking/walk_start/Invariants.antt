use mathlib.Core.Option.{none}
use Rattle.failures.specs.Accounts.{bests}
use Rattle.greatest.specs.Leading.{kept_of}
use Rattle.failures.proofs.Trying.{Trying}
use Rattle.failures.proofs.walking.walk_start.Given as goal

abbrev pub invariant-loop-head : goal.invariant-loop-head
invariant-loop-head l = Trying l.code l.sub l.initial.regs l.initial.work l.entry l.begin l.budget (bests l.begin) none (kept_of l.begin l.kept) l.regs l.work l.rest l.head

abbrev pub decreases-loop-head : goal.decreases-loop-head
decreases-loop-head l = l.rest
