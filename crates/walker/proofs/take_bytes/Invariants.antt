use mathlib.Core.Path.{◌≡◌}
use mathlib.Core.Bool.{true}
use Prim.Native.Nat.{◌≤◌}
use lib.ListN.{get_or}
use Rattle.walker.proofs.Stepping.{Stepping}
use Rattle.walker.proofs.take_bytes.Given as goal

abbrev pub invariant-loop-next : goal.invariant-loop-next
invariant-loop-next l = Stepping l.code l.sub l.initial.regs l.initial.work l.initial.head l.left l.regs l.work l.rest l.head × (l.head.live ≡ true) × (get_or l.code l.head.pc 0 ≡ 0) × (1 ≤ l.rest)

abbrev pub decreases-loop-next : goal.decreases-loop-next
decreases-loop-next l = l.rest
