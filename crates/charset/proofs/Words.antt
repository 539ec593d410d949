-- A class whose words are stored one after the other: what a store changes, and what a loop over the words has done.
use mathlib.Core.Path.{◌≡◌, refl, ap, ◌∙◌}
use mathlib.Core.List.{List}
use mathlib.Core.Bool.{Bool, true, false, cond, ◌||◌}
use Prim.Native.Nat.{ℕ, zero, suc, ◌+◌, ◌*◌, ◌/◌, ◌%◌, ◌^◌, ◌≤◌, ◌<◌}
use native.Mathlib.Omega.{arith}
use native.Mathlib.Nat.{div-eq_of_lt}
use borrow.Author.Tests.{eqb-true, eqb-false, eq-eqb, ne_eqb}
use lib.Bits.{bit_or}
use lib.Dec.{eqb}
use lib.ListN.{length, get_or, set, replicate, length-set}
use lib.Pow.{pow_pos}
use lib.Seq.{get_or-set_same, get_or-set_other}
use Rattle.charset.specs.Class.{bit, has}
use Rattle.charset.proofs.Bits.{or-bit, one_bit}

zeros : (n i : ℕ) → ◌≡◌ {A = ℕ} (get_or (replicate n 0) i 0) 0
zeros zero i = refl
zeros (suc n) zero = refl
zeros (suc n) (suc i) = zeros n i

-- no word has a byte where all are 0
pub has-none : (n x : ℕ) → has (replicate n 0) x ≡ false
unfolding has
has-none n x = rw (zeros n (x / 32), div-eq_of_lt (pow_pos (x % 32)))

-- a store changes the bytes of its word
pub has-set : (c : List ℕ) (i v x : ℕ) → i < length c → has (set c i v) x ≡ cond (eqb (x / 32) i) (bit v (x % 32)) (has c x)
unfolding has
has-set c i v x h = go (eqb (x / 32) i) refl
  where
    go : (t : Bool) → eqb (x / 32) i ≡ t → has (set c i v) x ≡ cond t (bit v (x % 32)) (has c x)
    go true e = rw (eqb-true (x / 32) i e, get_or-set_same c i v 0 h)
    go false e = rw (get_or-set_other c i (x / 32) v 0 (eqb-false (x / 32) i e))

same_word : (x b : ℕ) → x / 32 ≡ b / 32 → eqb (x % 32) (b % 32) ≡ eqb x b
same_word x b q = go (eqb x b) refl
  where
    go : (t : Bool) → eqb x b ≡ t → eqb (x % 32) (b % 32) ≡ t
    go true e = let p : x ≡ b = eqb-true x b e in eq-eqb (x % 32) (b % 32) (omega arith)
    go false e = let p : x ≡ b → ⊥ = eqb-false x b e in ne_eqb (x % 32) (b % 32) (omega arith)

-- a class with bit b % 32 of word b / 32 set
pub has-add : (c : List ℕ) (b x : ℕ) → b / 32 < length c
    → has (set c (b / 32) (bit_or (get_or c (b / 32) 0) ((1 * 2 ^ (b % 32)) % 2 ^ 32))) x ≡ (eqb x b || has c x)
unfolding has
has-add c b x h = has-set c (b / 32) v x h ∙ go (eqb (x / 32) (b / 32)) refl
  where
    w : ℕ
    w = get_or c (b / 32) 0

    v : ℕ
    v = bit_or w ((1 * 2 ^ (b % 32)) % 2 ^ 32)

    go : (t : Bool) → eqb (x / 32) (b / 32) ≡ t → cond t (bit v (x % 32)) (has c x) ≡ (eqb x b || has c x)
    go true e =
        let q : x / 32 ≡ b / 32 = eqb-true _ _ e in
        rw (q, or-bit w ((1 * 2 ^ (b % 32)) % 2 ^ 32) (x % 32), one_bit 32 (b % 32) (x % 32) (omega arith), same_word x b q)
    go false e =
        let n : x / 32 ≡ b / 32 → ⊥ = eqb-false _ _ e in
        rw (ne_eqb x b (λ r. n (ap (λ (y : ℕ). y / 32) r)))

-- a byte of word i is read there
pub word : (c : List ℕ) (i x : ℕ) → x / 32 ≡ i → bit (get_or c i 0) (x % 32) ≡ has c x
unfolding has
word c i x q = rw (← q)

-- a loop over the eight words of c has come to i: the words below i hold what is wanted
abbrev pub Done : (ℕ → Bool) → ℕ → List ℕ → Type 0
Done want i c = (i ≤ 8) × (length c ≡ 8) × ((x : ℕ) → x < 256 → x / 32 < i → has c x ≡ want x)

pub start : (want : ℕ → Bool) (c : List ℕ) → length c ≡ 8 → Done want 0 c
start want c n = (omega arith, n, λ x h l. absurd (omega arith))

-- one word more
pub step : (want : ℕ → Bool) (c : List ℕ) (i v : ℕ) → i < 8 → Done want i c
    → ((x : ℕ) → x < 256 → x / 32 ≡ i → bit v (x % 32) ≡ want x) → Done want (i + 1) (set c i v)
step want c i v l d f =
    (omega arith, simp length-set d.1, λ x h m. has-set c i v x (omega arith) ∙ go x h m (eqb (x / 32) i) refl)
  where
    go : (x : ℕ) → x < 256 → x / 32 < i + 1 → (t : Bool) → eqb (x / 32) i ≡ t → cond t (bit v (x % 32)) (has c x) ≡ want x
    go x h m true e = f x h (eqb-true _ _ e)
    go x h m false e = let n : x / 32 ≡ i → ⊥ = eqb-false _ _ e in d.2 x h (omega arith)

pub end : (want : ℕ → Bool) (c : List ℕ) (i : ℕ) → 8 ≤ i → Done want i c → (x : ℕ) → x < 256 → has c x ≡ want x
end want c i n d x h = d.2 x h (omega arith)
