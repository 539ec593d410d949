use Prim.Native.Nat.{◌≤◌}
use Rattle.reasons.specs.Items.{item_text}
use Rattle.reasons.specs.Marks.{Said}
use Rattle.reasons.proofs.marks.is_said.Given as goal

abbrev pub invariant-loop-i : goal.invariant-loop-i
invariant-loop-i l = (l.i ≤ l.at) × (Said l.rule l.flags l.marks (item_text l.rule l.flags l.at) l.i → ⊥)
