use Prim.Native.Nat.{◌≤◌, ◌-◌}
use lib.ListN.{length}
use Rattle.report_line.proofs.sentence.put_items.Given as goal

abbrev pub invariant-loop-place : goal.invariant-loop-place
invariant-loop-place l = (l.place ≤ length l.rule) × (l.named ≤ 3)

abbrev pub decreases-loop-place : goal.decreases-loop-place
decreases-loop-place l = length l.rule - l.place
