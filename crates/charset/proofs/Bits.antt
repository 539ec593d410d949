-- The bits of an or, of an and, of a shifted one and of a complement, for words of any width: a shift takes the bit in question to the end
-- of the word, where it is the remainder by two.
use mathlib.Core.Path.{◌≡◌, refl, sym, ap, subst}
use mathlib.Core.Bool.{Bool, true, false, not, ◌&&◌, ◌||◌}
use Prim.Native.Nat.{ℕ, suc, ◌+◌, ◌*◌, ◌-◌, ◌/◌, ◌%◌, ◌^◌, ◌≤◌, ◌<◌, min, max}
use native.Mathlib.Omega.{arith}
use native.Mathlib.Nat.{add-mul, pow-suc, div-eq_of_lt, one-mul, mod-lt}
use borrow.Author.Tests.{eqb-true, eqb-false, eq-eqb, ne_eqb, ltb-true, ltb-false}
use lib.Bits.{bit_and, bit_or, and_shr, or_shr, and_step, or_step}
use lib.Dec.{eqb, ltb}
use lib.Pow.{pow_pos, pow-lt, pow-add, shl_exact, shl-shr, shr_lt, split, high, ones_split}
use Rattle.charset.specs.Class.{bit}

or-odd : (a b : ℕ) → bit_or a b % 2 ≡ max (a % 2) (b % 2)
or-odd a b = omega (arith, or_step a b)

pub or-bit : (a b k : ℕ) → bit (bit_or a b) k ≡ (bit b k || bit a k)
or-bit a b k = rw (or_shr a b k, or-odd (a / 2 ^ k) (b / 2 ^ k)) (go (eqb (b / 2 ^ k % 2) 1) refl)
  where
    p : ℕ
    p = a / 2 ^ k % 2

    q : ℕ
    q = b / 2 ^ k % 2

    go : (t : Bool) → eqb q 1 ≡ t → eqb (max p q) 1 ≡ (t || eqb p 1)
    go true e = let h : q ≡ 1 = eqb-true q 1 e in eq-eqb (max p q) 1 (omega arith)
    go false e =
        let h : q ≡ 1 → ⊥ = eqb-false q 1 e in
        let m : max p q ≡ p = omega arith in
        rw m

and-odd : (a b : ℕ) → bit_and a b % 2 ≡ min (a % 2) (b % 2)
and-odd a b = omega (arith, and_step a b)

pub and-bit : (a b k : ℕ) → bit (bit_and a b) k ≡ (bit b k && bit a k)
and-bit a b k = rw (and_shr a b k, and-odd (a / 2 ^ k) (b / 2 ^ k)) (go (eqb (b / 2 ^ k % 2) 1) refl)
  where
    p : ℕ
    p = a / 2 ^ k % 2

    q : ℕ
    q = b / 2 ^ k % 2

    go : (t : Bool) → eqb q 1 ≡ t → eqb (min p q) 1 ≡ (t && eqb p 1)
    go true e =
        let h : q ≡ 1 = eqb-true q 1 e in
        let m : min p q ≡ p = omega arith in
        rw m
    go false e = let h : q ≡ 1 → ⊥ = eqb-false q 1 e in ne_eqb (min p q) 1 (omega arith)

one-low : (j m : ℕ) → (1 * 2 ^ (suc m + j)) / 2 ^ j % 2 ≡ 0
one-low j m =
    rw (one-mul (2 ^ (suc m + j)), pow-add 2 (suc m) j, shl-shr (2 ^ suc m) j, pow-suc 2 m)
    (omega arith)

one-else : (j k : ℕ) → (k ≡ j → ⊥) → (1 * 2 ^ j) / 2 ^ k % 2 ≡ 0
one-else j k n = go (ltb j k) refl
  where
    go : (t : Bool) → ltb j k ≡ t → (1 * 2 ^ j) / 2 ^ k % 2 ≡ 0
    go true e =
        let h : j < k = ltb-true j k e in
        rw (one-mul (2 ^ j), div-eq_of_lt (pow-lt h))
    go false e =
        let h : k ≤ j = ltb-false j k e in
        let q : j ≡ suc (j - k - 1) + k = omega arith in
        subst (λ (x : ℕ). (1 * 2 ^ x) / 2 ^ k % 2 ≡ 0) (sym q) (one-low k (j - k - 1))

-- a one that is shifted to j, in a word of w bits
pub one_bit : (w j k : ℕ) → j < w → bit ((1 * 2 ^ j) % 2 ^ w) k ≡ eqb k j
one_bit w j k h = rw (shl_exact {a = 1} 1 j w (omega arith) (omega arith)) (go (eqb k j) refl)
  where
    go : (t : Bool) → eqb k j ≡ t → bit (1 * 2 ^ j) k ≡ t
    go true e = rw (eqb-true k j e, shl-shr 1 j)
    go false e = rw (one-else j k (eqb-false k j e))

not-odd : (j k a : ℕ) → a < 2 ^ (suc j + k) → ((2 ^ (suc j + k) - 1) - a) / 2 ^ k % 2 ≡ 1 - a / 2 ^ k % 2
not-odd j k a h =
    let q : a / 2 ^ k < 2 ^ suc j = shr_lt (suc j) k h in
    let d : ℕ = (2 ^ suc j - 1) - a / 2 ^ k in
    let r : a % 2 ^ k < 2 ^ k = mod-lt a (pow_pos k) in
    let two : 2 ^ suc j ≡ 2 ^ j * 2 = pow-suc 2 j in
    let sum : 2 ^ suc j - 1 ≡ d + a / 2 ^ k = omega arith in
    let e : (2 ^ (suc j + k) - 1) - a ≡ d * 2 ^ k + ((2 ^ k - 1) - a % 2 ^ k) =
    omega (arith, ones_split (suc j) k, ap (λ (y : ℕ). y * 2 ^ k) sum, add-mul d (a / 2 ^ k) (2 ^ k), split a k) in
    rw (e, high d k {lo = (2 ^ k - 1) - a % 2 ^ k} (omega arith)) (omega arith)

-- a word of w bits with each bit flipped
pub not-bit : (w a k : ℕ) → k < w → a < 2 ^ w → bit (2 ^ w - 1 - a) k ≡ not (bit a k)
not-bit w a k hk ha =
    let e : w ≡ suc (w - 1 - k) + k = omega arith in
    let h : a < 2 ^ (suc (w - 1 - k) + k) = subst (λ (x : ℕ). a < 2 ^ x) e ha in
    subst (λ (x : ℕ). bit (2 ^ x - 1 - a) k ≡ not (bit a k)) (sym e)
    (rw (not-odd (w - 1 - k) k a h) (go (eqb (a / 2 ^ k % 2) 1) refl))
  where
    go : (t : Bool) → eqb (a / 2 ^ k % 2) 1 ≡ t → eqb (1 - a / 2 ^ k % 2) 1 ≡ not t
    go true e = let p : a / 2 ^ k % 2 ≡ 1 = eqb-true _ _ e in ne_eqb (1 - a / 2 ^ k % 2) 1 (omega arith)
    go false e = let p : a / 2 ^ k % 2 ≡ 1 → ⊥ = eqb-false _ _ e in eq-eqb (1 - a / 2 ^ k % 2) 1 (omega arith)
