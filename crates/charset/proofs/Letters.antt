-- A class whose letters are stored in both cases. A mask has the letters' bits by a test that the checker computes over the 32 bits of a word; a
-- letter's two cases are the same bit of two words, so that each word takes the masked bits of the other.
use mathlib.Core.Path.{◌≡◌, refl, sym, ◌∙◌}
use mathlib.Core.List.{List}
use mathlib.Core.Bool.{Bool, true, false, cond, beq, ◌&&◌, ◌||◌, or_comm, or_self}
use Prim.Native.Nat.{ℕ, ◌+◌, ◌-◌, ◌/◌, ◌%◌, ◌≤◌, ◌<◌}
use native.Mathlib.Omega.{arith}
use borrow.Author.Tests.{eqb-true, eqb-false, le-leb, lt-leb}
use lib.Bits.{bit_and, bit_or}
use lib.Dec.{T, eqb}
use lib.ListN.{length, get_or, set, length-set}
use Rattle.charset.specs.Named.{in_range, ◌to◌}
use Rattle.charset.specs.Cases.{other_case, folding}
use Rattle.charset.specs.Class.{bit, has}
use Rattle.charset.specs.Laws.Cases.{Place, before, upper, between, lower, behind, placed, other-before, other-upper, other-between, other-lower, other-behind}
use Rattle.charset.proofs.Bits.{or-bit, and-bit}
use Rattle.charset.specs.Laws.Tables.{all, all-at, same}
use Rattle.charset.proofs.Words.{has-set, word}

-- whether bit k of the mask is a letter's: A and a are the second bytes of their words, and Z and z stand 25 behind
abbrev marks_letter : ℕ → ℕ → Bool
marks_letter mask k = beq (bit mask k) (in_range k (1 to 26))

abbrev pub masks_letters : ℕ → Bool
masks_letters mask = all 32 (marks_letter mask)

-- word i with the masked bits of word j
abbrev both : List ℕ → ℕ → ℕ → ℕ → ℕ
both c mask i j = bit_or (get_or c i 0) (bit_and (get_or c j 0) mask)

module _ (c : List ℕ) (mask : ℕ) (t : T (masks_letters mask)) where
  masked : (x : ℕ) → bit mask (x % 32) ≡ in_range (x % 32) (1 to 26)
  masked x = same (bit mask (x % 32)) (in_range (x % 32) (1 to 26)) (all-at 32 (marks_letter mask) t (x % 32) (omega arith))

  masked-letter : (x : ℕ) → 1 ≤ x % 32 → x % 32 ≤ 26 → bit mask (x % 32) ≡ true
  unfolding in_range
  masked-letter x h l = masked x ∙ rw (le-leb 1 (x % 32) h, le-leb (x % 32) 26 l)

  masked-before : (x : ℕ) → x % 32 < 1 → bit mask (x % 32) ≡ false
  unfolding in_range
  masked-before x h = masked x ∙ rw (lt-leb 1 (x % 32) h)

  masked-behind : (x : ℕ) → 26 < x % 32 → bit mask (x % 32) ≡ false
  unfolding in_range
  masked-behind x h = masked x ∙ rw (le-leb 1 (x % 32) (omega arith), lt-leb (x % 32) 26 h)

  -- at a byte x of word i, where y is the byte at the same place of word j: its bit of the mask says whether y is its other case
  taken : (i j x y : ℕ) → x / 32 ≡ i → y / 32 ≡ j → y % 32 ≡ x % 32 → (s : Bool) → bit mask (x % 32) ≡ s → other_case x ≡ cond s y x
      → bit (both c mask i j) (x % 32) ≡ folding true (has c) x
  unfolding folding
  taken i j x y p q r s m o =
      or-bit (get_or c i 0) (bit_and (get_or c j 0) mask) (x % 32)
      ∙ rw (and-bit (get_or c j 0) mask (x % 32), m, word c i x p, o) (go s)
    where
      go : (s : Bool) → (s && bit (get_or c j 0) (x % 32) || has c x) ≡ (has c x || has c (cond s y x))
      go true = rw (← r, word c j y q) (or_comm (has c y) (has c x))
      go false = sym (or_self (has c x))

  in-upper : (x : ℕ) → x / 32 ≡ 2 → bit (both c mask 2 3) (x % 32) ≡ folding true (has c) x
  in-upper x p = go (placed x)
    where
      by : (s : Bool) → bit mask (x % 32) ≡ s → other_case x ≡ cond s (x + 32) x → bit (both c mask 2 3) (x % 32) ≡ folding true (has c) x
      by = taken 2 3 x (x + 32) p (omega arith) (omega arith)

      go : Place x → bit (both c mask 2 3) (x % 32) ≡ folding true (has c) x
      go (before h) = by false (masked-before x (omega arith)) (other-before x h)
      go (upper h l) = by true (masked-letter x (omega arith) (omega arith)) (other-upper x h l)
      go (between h l) = by false (masked-behind x (omega arith)) (other-between x h l)
      go (lower h l) = absurd (omega arith)
      go (behind h) = absurd (omega arith)

  in-lower : (x : ℕ) → x / 32 ≡ 3 → bit (both c mask 3 2) (x % 32) ≡ folding true (has c) x
  in-lower x p = go (placed x)
    where
      by : (s : Bool) → bit mask (x % 32) ≡ s → other_case x ≡ cond s (x - 32) x → bit (both c mask 3 2) (x % 32) ≡ folding true (has c) x
      by = taken 3 2 x (x - 32) p (omega arith) (omega arith)

      go : Place x → bit (both c mask 3 2) (x % 32) ≡ folding true (has c) x
      go (before h) = absurd (omega arith)
      go (upper h l) = absurd (omega arith)
      go (between h l) = by false (masked-before x (omega arith)) (other-between x h l)
      go (lower h l) = by true (masked-letter x (omega arith) (omega arith)) (other-lower x h l)
      go (behind h) = by false (masked-behind x (omega arith)) (other-behind x h)

  elsewhere : (x : ℕ) → (x / 32 ≡ 2 → ⊥) → (x / 32 ≡ 3 → ⊥) → has c x ≡ folding true (has c) x
  unfolding folding
  elsewhere x n m = go (placed x)
    where
      itself : other_case x ≡ x → has c x ≡ (has c x || has c (other_case x))
      itself o = rw (o, or_self (has c x))

      go : Place x → has c x ≡ (has c x || has c (other_case x))
      go (before h) = itself (other-before x h)
      go (upper h l) = absurd (omega arith)
      go (between h l) = absurd (omega arith)
      go (lower h l) = absurd (omega arith)
      go (behind h) = itself (other-behind x h)

  pub has-fold : length c ≡ 8 → (x : ℕ)
      → has (set (set c 2 (both c mask 2 3)) 3 (both c mask 3 2)) x ≡ folding true (has c) x
  has-fold n x =
      has-set (set c 2 (both c mask 2 3)) 3 (both c mask 3 2) x (simp length-set (omega arith))
      ∙ lower_word (eqb (x / 32) 3) refl
    where
      upper-word : (x / 32 ≡ 3 → ⊥) → (s : Bool) → eqb (x / 32) 2 ≡ s → cond s (bit (both c mask 2 3) (x % 32)) (has c x) ≡ folding true (has c) x
      upper-word m true e = in-upper x (eqb-true _ _ e)
      upper-word m false e = elsewhere x (eqb-false _ _ e) m

      lower_word : (s : Bool) → eqb (x / 32) 3 ≡ s → cond s (bit (both c mask 3 2) (x % 32)) (has (set c 2 (both c mask 2 3)) x) ≡ folding true (has c) x
      lower_word true e = in-lower x (eqb-true _ _ e)
      lower_word false e = has-set c 2 (both c mask 2 3) x (omega arith) ∙ upper-word (eqb-false _ _ e) (eqb (x / 32) 2) refl
