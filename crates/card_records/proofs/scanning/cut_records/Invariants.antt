use Prim.Native.Nat.{◌-◌, ◌≤◌}
use lib.ListN.{length}
use Rattle.card_records.specs.Laws.Walking.{Walked}
use Rattle.card_records.proofs.scanning.cut_records.Given as goal

abbrev pub invariant-loop-at : goal.invariant-loop-at
invariant-loop-at l = (l.many ≤ l.at) × (l.at ≤ length l.card) × Walked l.card l.at l.many l.ordered

abbrev pub decreases-loop-at : goal.decreases-loop-at
decreases-loop-at l = length l.card - l.at
