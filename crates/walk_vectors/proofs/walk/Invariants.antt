use mathlib.Core.Path.{◌≡◌}
use Prim.Native.Nat.{◌≤◌}
use lib.ListN.{length}
use Rattle.walk_vectors.proofs.Turns.{Going}
use Rattle.walk_vectors.proofs.walk.Given as goal

abbrev pub invariant-loop-used : goal.invariant-loop-used
invariant-loop-used l = Going l.code l.sub l.regs l.work l.head l.left × (l.left ≤ l.budget) × (length l.regs ≡ length l.initial.regs) × (length l.work ≡ length l.initial.work)

abbrev pub decreases-loop-used : goal.decreases-loop-used
decreases-loop-used l = l.left
