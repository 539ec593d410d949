-- The digits of a number: one for a number below ten, and one more than those of its tenth for any other.
use Rattle.std.specs.Prelude.{◌≡◌, refl, List, [], ◌∷◌, ◌++◌, Bool, true, false, ◌⊎◌, ℕ, zero, suc, ◌+◌, ◌/◌, ◌%◌, ◌^◌, ◌≤◌, ◌<◌, length, ltb}
use Rattle.std.proofs.Common.{sym, ap, ◌∙◌, inl, inr, ⊎_elim, arith, lt-ltb, le-ltb, ltb-true, ltb-false, length-append}
use Rattle.text.specs.Numbers.{digit, decimal_within, decimal}

-- a number is below ten or not
small_or_large : (n : ℕ) → (n < 10) ⊎ (10 ≤ n)
small_or_large n = go (ltb n 10) refl
  where
    go : (t : Bool) → ltb n 10 ≡ t → (n < 10) ⊎ (10 ≤ n)
    go true e = inl (ltb-true n 10 e)
    go false e = inr (ltb-false n 10 e)

within_small : (tenths n : ℕ) → n < 10 → decimal_within tenths n ≡ digit n ∷ []
unfolding decimal_within
within_small zero n h = refl
within_small (suc tenths) n h = rw (lt-ltb n 10 h)

within_large : (tenths n : ℕ) → 10 ≤ n → decimal_within (suc tenths) n ≡ decimal_within tenths (n / 10) ++ (digit (n % 10) ∷ [])
unfolding decimal_within
within_large tenths n h = rw (le-ltb n 10 h)

-- it does not matter how many tenths are allowed, if they are enough
enough : (a b n : ℕ) → n ≤ a → n ≤ b → decimal_within a n ≡ decimal_within b n
enough zero b n h k = within_small zero n (omega arith) ∙ sym (within_small b n (omega arith))
enough (suc a) zero n h k = within_small (suc a) n (omega arith) ∙ sym (within_small zero n (omega arith))
enough (suc a) (suc b) n h k =
    ⊎_elim
    (λ (e : n < 10). within_small (suc a) n e ∙ sym (within_small (suc b) n e))
    (λ (e : 10 ≤ n). within_large a n e
    ∙ ap (λ (l : List ℕ). l ++ (digit (n % 10) ∷ [])) (enough a b (n / 10) (omega arith) (omega arith))
    ∙ sym (within_large b n e))
    (small_or_large n)

pub small : (n : ℕ) → n < 10 → decimal n ≡ digit n ∷ []
unfolding decimal
small n h = within_small n n h

pub large : (n : ℕ) → 10 ≤ n → decimal n ≡ decimal (n / 10) ++ (digit (n % 10) ∷ [])
unfolding decimal
large zero h = absurd (omega arith)
large (suc m) h =
    within_large m (suc m) h
    ∙ ap (λ (l : List ℕ). l ++ (digit (suc m % 10) ∷ [])) (enough m (suc m / 10) (suc m / 10) (omega arith) (omega arith))

pub length-small : (n : ℕ) → n < 10 → length (decimal n) ≡ 1
length-small n h = rw (small n h)

pub length-large : (n : ℕ) → 10 ≤ n → length (decimal n) ≡ length (decimal (n / 10)) + 1
length-large n h = rw (large n h, length-append)

-- below a power of ten so many digits are enough
pub few_digits : (k n : ℕ) → n < 10 ^ suc k → length (decimal n) ≤ suc k
few_digits zero n h = rw (small n (omega arith)) (omega arith)
few_digits (suc k) n h =
    ⊎_elim
    (λ (e : n < 10). rw (small n e) (omega arith))
    (λ (e : 10 ≤ n). rw (large n e, length-append) (omega (arith, few_digits k (n / 10) (omega arith))))
    (small_or_large n)

-- a number of 32 bits has at most ten
pub ten_digits : (n : ℕ) → n < 2 ^ 32 → length (decimal n) ≤ 10
ten_digits n h = few_digits 9 n (omega arith)

-- one of 64 bits at most twenty
pub twenty_digits : (n : ℕ) → n < 2 ^ 64 → length (decimal n) ≤ 20
twenty_digits n h = few_digits 19 n (omega arith)
