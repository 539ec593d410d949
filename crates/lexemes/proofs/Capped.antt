-- Laws of capped numbers: below 1000 a cap changes nothing, and a test against a limit below 1000 does not see it. Assumes nothing.
use Rattle.std.specs.Prelude.{if◌then◌else◌}
use mathlib.Core.Path.{◌≡◌, refl, sym, ◌∙◌}
use Prim.Native.Nat.{ℕ, ◌-◌, ◌≤◌, ◌<◌, min}
use native.Mathlib.Omega.{arith}
use native.Mathlib.Decide.{dec_lt}
use lib.Dec.{leb, eqb}
use borrow.Author.Tests.{lt-ltb, le-ltb, lt-leb, ne_eqb}
use Rattle.lexemes.specs.Says.{capped}

pub capped-below : (n : ℕ) → n < 1000 → capped n ≡ n
unfolding capped
capped-below n h = simp (lt-ltb n 1000 h)

pub capped-over : (n : ℕ) → 1000 ≤ n → capped n ≡ 1000
unfolding capped
capped-over n h = simp (le-ltb n 1000 h)

-- what a fact of capped numbers comes to: one of numbers below 1000, where the cap changes nothing, and one of all others
module _ (P : ℕ → ℕ → Type 0) (n : ℕ) (low : n < 1000 → P n n) (high : 1000 ≤ n → P 1000 n) where
  by : Dec (n < 1000) → P (capped n) n
  by (yes h) = rw (capped-below n h) (low h)
  by (no h) = let k : 1000 ≤ n = omega arith in rw (capped-over n k) (high k)

  pub capped-by : P (capped n) n
  capped-by = by (dec_lt n 1000)

pub capped-most : (n : ℕ) → capped n ≤ 1000
capped-most n = capped-by (λ (c n : ℕ). c ≤ 1000) n (λ h. omega arith) (λ h. omega arith)

pub capped_same : (n : ℕ) → n ≤ 1000 → capped n ≡ n
capped_same n l = capped-by (λ (c n : ℕ). c ≡ n) n (λ h. refl) (λ h. omega arith)

pub capped-min : (n : ℕ) → min n 1000 ≡ capped n
capped-min n = capped-by (λ (c n : ℕ). min n 1000 ≡ c) n (λ h. omega arith) (λ h. omega arith)

pub capped-zero : (n : ℕ) → eqb (capped n) 0 ≡ eqb n 0
capped-zero n = capped-by (λ (c n : ℕ). eqb c 0 ≡ eqb n 0) n (λ h. refl) (λ h. sym (ne_eqb n 0 (λ e. omega arith)))

module _ (k : ℕ) (small : k < 1000) (n : ℕ) where
  pub capped-leb : leb (capped n) k ≡ leb n k
  capped-leb = capped-by (λ (c n : ℕ). leb c k ≡ leb n k) n (λ h. refl) (λ h. lt-leb 1000 k small ∙ sym (lt-leb n k (omega arith)))

  pub capped-minus : k - capped n ≡ k - n
  capped-minus = capped-by (λ (c n : ℕ). k - c ≡ k - n) n (λ h. refl) (λ h. omega arith)

  -- what is chosen by a limit, and depends on the number only up to the limit
  pub capped-if : {A : Type 0} (f : ℕ → A) (other : A) → (if leb (capped n) k then f (capped n) else other) ≡ (if leb n k then f n else other)
  capped-if {A} f other = capped-by (λ (c n : ℕ). (if leb c k then f c else other) ≡ (if leb n k then f n else other)) n (λ h. refl) (λ h. simp (lt-leb 1000 k small, lt-leb n k (omega arith)))
