-- A test over all numbers below a bound, which the checker computes, and what it says at each.
use Rattle.std.specs.Prelude.{◌≡◌, refl, Bool, true, false, ◌&&◌, ℕ, zero, suc, ◌<◌, T, eqb}
use Rattle.std.specs.Bool.{beq}
use Rattle.std.proofs.Common.{arith, eqb-true}
use Rattle.std.proofs.lemmas.Bool.{eqb-false}

-- whether a test passes at each number below n
abbrev pub all : ℕ → (ℕ → Bool) → Bool
all zero f = true
all (suc n) f = f n && all n f

and_left : (a b : Bool) → T (a && b) → T a
and_left true b t = tt
and_left false b t = t

and_right : (a b : Bool) → T (a && b) → T b
and_right true b t = t
and_right false b t = absurd t

pub all-at : (n : ℕ) (f : ℕ → Bool) → T (all n f) → (k : ℕ) → k < n → T (f k)
all-at zero f t k h = absurd (omega arith)
all-at (suc n) f t k h = go (eqb k n) refl (all-at n f (and_right (f n) (all n f) t) k)
  where
    go : (s : Bool) → eqb k n ≡ s → (k < n → T (f k)) → T (f k)
    go true e below = rw (eqb-true k n e) (and_left (f n) (all n f) t)
    go false e below = let p : k ≡ n → ⊥ = eqb-false k n e in below (omega arith)

pub same : (a b : Bool) → T (beq a b) → a ≡ b
same true true t = refl
same true false t = absurd t
same false true t = absurd t
same false false t = refl
