-- The place is at most the end, and each run goes on.
use Prim.Native.Nat.{◌≤◌, ◌-◌}
use Rattle.page.proofs.colours.put_runs.Given as goal

abbrev pub invariant-loop-i : goal.invariant-loop-i
invariant-loop-i l = l.i ≤ l.to

abbrev pub decreases-loop-i : goal.decreases-loop-i
decreases-loop-i l = l.to - l.i
