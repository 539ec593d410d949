-- The end of a line that begins within a text is within the text.
use mathlib.Core.Path.{◌≡◌}
use mathlib.Core.List.{List}
use Prim.Native.Nat.{ℕ, ◌+◌, ◌≤◌}
use native.Mathlib.Omega.{arith}
use lib.ListN.{length, take, drop, length-take, length-drop}
use Rattle.text.specs.Lines.{line_length}
use Rattle.text.specs.Laws.Lines.{line_within}

pub ends_within : (s : List ℕ) (from : ℕ) {r : ℕ} → r ≡ from + line_length (drop from s) → from ≤ length s → r ≤ length s
ends_within s from e h = omega (arith, line_within (drop from s), length-drop from s)

-- the same of the first bytes of a text
pub ends-before : (s : List ℕ) (n from : ℕ) {r : ℕ} → r ≡ from + line_length (drop from (take n s)) → from ≤ n → n ≤ length s → r ≤ n
ends-before s n from e h k = omega (arith, line_within (drop from (take n s)), length-drop from (take n s), length-take n s)
