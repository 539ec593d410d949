use mathlib.Core.Path.{◌≡◌}
use Prim.Native.Nat.{ℕ, ◌≤◌, ◌<◌}
use lib.ListN.{get_or}
use Rattle.card_format.specs.Places.{place}
use Rattle.card_records.proofs.scanning.is_padding.Given as goal

abbrev pub invariant-loop-i : goal.invariant-loop-i
invariant-loop-i l = (l.from ≤ l.i) × (l.i ≤ l.to) × ((j : ℕ) → l.from ≤ j → j < l.i → get_or l.card (place j) 0 ≡ 0)
