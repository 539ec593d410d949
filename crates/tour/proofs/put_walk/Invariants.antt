use mathlib.Core.Path.{◌≡◌}
use lib.ListN.{length}
use Rattle.tour.proofs.Turning.{Able}
use Rattle.tour.proofs.put_walk.Given as goal

abbrev pub invariant-loop-head : goal.invariant-loop-head
invariant-loop-head l = (length l.regs ≡ length l.initial.regs) × (length l.work ≡ length l.initial.work) × Able l.code l.sub l.regs l.work l.head l.left

abbrev pub decreases-loop-head : goal.decreases-loop-head
decreases-loop-head l = l.left
