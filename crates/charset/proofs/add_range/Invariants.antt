use mathlib.Core.Path.{◌≡◌}
use mathlib.Core.Bool.{◌||◌}
use Prim.Native.Nat.{ℕ, ◌≤◌, ◌<◌, max}
use Rattle.charset.specs.Class.{has}
use Rattle.charset.proofs.Range.{before}
use Rattle.charset.proofs.add_range.Given as goal

abbrev pub invariant-loop-b : goal.invariant-loop-b
invariant-loop-b l = (l.low ≤ l.b) × (l.b ≤ max l.low l.high) × ((x : ℕ) → x < 256 → has l.c x ≡ (before l.low l.b x || has l.initial.c x))
