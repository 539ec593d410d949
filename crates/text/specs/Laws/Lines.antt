-- Where a line ends, one byte at a time.
use Rattle.std.specs.Prelude.{◌≡◌, List, [], ◌∷◌, Bool, true, false, cond, eqb, ℕ, suc, ◌+◌, ◌-◌, ◌≤◌, ◌<◌, length, get_or, drop}
use Rattle.std.proofs.Common.{arith, drop_of_length-le, length-drop, drop-cons}
use borrow.Author.Tests.{eq-eqb, ne_eqb}
use Rattle.text.specs.Lines.{newline, line_length}

module _ (s : List ℕ) (i : ℕ) where
  -- at an 0A the line has ended
  pub ended : i < length s → get_or s i 0 ≡ newline → line_length (drop i s) ≡ 0
  unfolding line_length
  ended h e = rw (drop-cons s i 0 h, eq-eqb (get_or s i 0) newline e)

  -- another byte belongs to it
  pub goes_on : i < length s → (get_or s i 0 ≡ newline → ⊥) → line_length (drop i s) ≡ suc (line_length (drop (suc i) s))
  unfolding line_length
  goes_on h e = rw (drop-cons s i 0 h, ne_eqb (get_or s i 0) newline e)

  -- at the end of the text too
  pub out : length s ≤ i → line_length (drop i s) ≡ 0
  unfolding line_length
  out h = rw (drop_of_length-le s h)

-- the bytes of a block, as long as none of them is an 0A
pub block-begins : (s : List ℕ) (from : ℕ) → line_length (drop from s) ≡ 0 + line_length (drop (from + 0) s)
block-begins s from = let z : from + 0 ≡ from = omega arith in rw z (omega arith)

pub block_on : (s : List ℕ) (from i : ℕ) → from + i < length s → (get_or s (from + i) 0 ≡ newline → ⊥) → line_length (drop from s) ≡ i + line_length (drop (from + i) s) → line_length (drop from s) ≡ (i + 1) + line_length (drop (from + (i + 1)) s)
block_on s from i h f e = let z : from + (i + 1) ≡ suc (from + i) = omega arith in rw z (omega (arith, goes_on s (from + i) h f))

-- a line ends within the text
pub line_within : (s : List ℕ) → line_length s ≤ length s
unfolding line_length
line_within [] = omega arith
line_within (b ∷ s) = go (line_within s) (eqb b newline)
  where
    go : line_length s ≤ length s → (t : Bool) → cond t 0 (suc (line_length s)) ≤ suc (length s)
    go h true = omega arith
    go h false = omega arith

-- The position behind a line that begins at another.
module _ (s : List ℕ) (from r : ℕ) (e : r ≡ from + line_length (drop from s)) where
  pub line-least : from ≤ r
  line-least = omega arith

  pub line-within : from ≤ length s → r ≤ length s
  line-within h = let k : line_length (drop from s) ≤ length s - from = simp length-drop at (line_within (drop from s)) in omega arith
