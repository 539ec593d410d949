-- The place is within the signs, of which there are as many as the rule has bytes.
use Prim.Native.Nat.{◌≤◌, ◌-◌}
use lib.ListN.{length}
use Rattle.page.proofs.attempt.put_marked.Given as goal

abbrev pub invariant-loop-i : goal.invariant-loop-i
invariant-loop-i l = l.i ≤ length l.signs

abbrev pub decreases-loop-i : goal.decreases-loop-i
decreases-loop-i l = length l.signs - l.i
