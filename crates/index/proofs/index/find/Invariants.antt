use Prim.Native.Nat.{◌-◌, ◌≤◌}
use Rattle.index.specs.Rows.{row_of}
use Rattle.index.specs.Laws.Index.{Sought}
use Rattle.index.proofs.index.find.Given as goal

abbrev pub invariant-loop-at : goal.invariant-loop-at
invariant-loop-at l = (l.top ≤ l.rows - l.earlier) × Sought l.results l.index l.heads l.earlier l.rows (row_of l.start l.stop l.registers) l.at l.top

abbrev pub decreases-loop-at : goal.decreases-loop-at
decreases-loop-at l = l.top
