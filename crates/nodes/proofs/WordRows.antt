-- The word bytes by rows of 32. Each row is a test that the checker computes over its values, and one law turns the test into the rule at a byte.
use mathlib.Core.Path.{◌≡◌, sym, ap, ◌∙◌}
use mathlib.Core.Bool.{false, beq}
use mathlib.Core.Logic.{inl, inr}
use Prim.Native.Nat.{ℕ, ◌+◌, ◌*◌, ◌/◌, ◌%◌, ◌≤◌, ◌<◌}
use native.Mathlib.Omega.{arith}
use lib.Dec.{T}
use Rattle.charset.specs.Class.{bit}
use Rattle.charset.specs.Named.{◌to◌, in_range, ranges, in_ranges, in_named}
use Rattle.charset.specs.Laws.Tables.{all, all-at, same}
use Rattle.semantics.specs.Assertions.{is_word}
use Rattle.semantics.proofs.Laws.Cases.{le-or}
use Rattle.nodes.proofs.Tests.{under-range, over-range}

-- a row whose bits are those of its values
pub row_words : (bits row : ℕ) → T (all 32 (λ (i : ℕ). beq (bit bits i) (is_word (32 * row + i)))) → (b : ℕ) → b / 32 ≡ row → bit bits (b % 32) ≡ is_word b
row_words bits row t b h =
    let i : b ≡ 32 * row + b % 32 = omega arith in
    same (bit bits (b % 32)) (is_word (32 * row + b % 32)) (all-at 32 (λ (i : ℕ). beq (bit bits i) (is_word (32 * row + i))) t (b % 32) (omega arith)) ∙ ap is_word (sym i)

-- the other rows have none
pub no_words : (b row : ℕ) → (row ≡ 1 → ⊥) → (row ≡ 2 → ⊥) → (row ≡ 3 → ⊥) → b / 32 ≡ row → false ≡ is_word b
unfolding is_word in_named ranges in_ranges
no_words b row x y z h = rw (out 0x30 0x39 (omega arith), out 0x41 0x5A (omega arith), out 0x5F 0x5F (omega arith), out 0x61 0x7A (omega arith))
  where
    out : (low high : ℕ) → (low ≤ high) × (32 ≤ low) × (high < 128) → in_range b (low to high) ≡ false
    out low high f = elim (le-or 128 b) [ inl g ↦ over-range b low high f.0 (omega (arith, g, f.2)) | inr g ↦ under-range b low high (omega (arith, g, f.1, h)) ]
