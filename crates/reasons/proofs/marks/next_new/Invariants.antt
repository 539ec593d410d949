use Prim.Native.Nat.{ℕ, ◌≤◌, ◌<◌}
use lib.ListN.{length}
use Rattle.reasons.specs.Marks.{New}
use Rattle.reasons.proofs.marks.next_new.Given as goal

abbrev pub invariant-loop-i : goal.invariant-loop-i
invariant-loop-i l = (l.from ≤ l.i) × (l.i ≤ length l.rule) × ((j : ℕ) → l.from ≤ j → j < l.i → New l.rule l.flags l.marks j → ⊥)
