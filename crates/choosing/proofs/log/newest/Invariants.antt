-- The loop goes down from n: it stays at or below it.
use Prim.Native.Nat.{◌≤◌}
use Rattle.choosing.proofs.log.newest.Given as goal

abbrev pub invariant-loop-i : goal.invariant-loop-i
invariant-loop-i l = l.i ≤ l.n

abbrev pub decreases-loop-i : goal.decreases-loop-i
decreases-loop-i l = l.i
