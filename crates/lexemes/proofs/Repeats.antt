-- Which case of a quantifier holds, from the tests, and that a capped bound serves for the bound itself. Assumes nothing.
use Rattle.std.specs.Prelude.{if◌then◌else◌}
use mathlib.Core.Path.{◌≡◌, refl, sym, ◌∙◌}
use mathlib.Core.List.{List}
use mathlib.Core.Bool.{Bool, true, false, ◌&&◌, and-false}
use Prim.Native.Nat.{ℕ, ◌+◌, ◌≤◌, ◌<◌}
use native.Mathlib.Omega.{arith}
use lib.ListN.{length}
use lib.Dec.{leb}
use borrow.Author.Tests.{le-leb, lt-leb, ne_eqb, leb-true}
use Rattle.syntax.specs.declared.Greed.TheVariants.{Greedy, Lazy}
use Rattle.syntax.specs.declared.Most.{Most}
use Rattle.syntax.specs.declared.Most.TheVariants.{AtMost, Unlimited}
use Rattle.syntax.specs.declared.Quantifier.TheVariants.{Absent, Stray, Unfit, Times}
use Rattle.syntax.specs.Limits.{bound_limit}
use Rattle.syntax.specs.Read.{byte}
use Rattle.syntax.specs.Numbers.{digits, value}
use Rattle.syntax.specs.Quantifiers.{with_greed, at_least, from_to, upper, braces, quantifier}
use Rattle.syntax.specs.Laws.Fuel.{if-same}
use Rattle.syntax.specs.declared.Parsed.{Parsed}
use Rattle.lexemes.specs.Says.{capped, Counts}
use Rattle.lexemes.proofs.Capped.{capped-if}
use Rattle.lexemes.proofs.Digits.{counted_none, counted-some}

-- By the byte behind a repeat, and by its bounds ----------------------------------

module _ (s : List ℕ) (least : ℕ) (most : Most) (at b : ℕ) (p : b ≡ byte s at) where
  pub greed-lazy : b ≡ 63 → Times least most Lazy false (at + 1) ≡ with_greed s least most at
  unfolding with_greed
  greed-lazy e = rw (← p, e)

  pub greed-possessive : b ≡ 43 → Times least most Greedy true (at + 1) ≡ with_greed s least most at
  unfolding with_greed
  greed-possessive e = rw (← p, e)

  pub greed-greedy : (b ≡ 63 → ⊥) → (b ≡ 43 → ⊥) → Times least most Greedy false at ≡ with_greed s least most at
  unfolding with_greed
  greed-greedy n m = rw (← p) (simp (ne_eqb b 63 n, ne_eqb b 43 m))

module _ (s : List ℕ) (n at : ℕ) where
  pub at_least-over : 255 < n → Unfit ≡ at_least s n at
  unfolding at_least bound_limit
  at_least-over h = simp (lt-leb n 255 h)

  pub at_least-fit : n ≤ 255 → with_greed s n Unlimited at ≡ at_least s n at
  unfolding at_least bound_limit
  at_least-fit h = simp (le-leb n 255 h)

module _ (s : List ℕ) (n m at : ℕ) where
  pub from_to-less : m < n → Unfit ≡ from_to s n m at
  unfolding from_to
  from_to-less h = simp (lt-leb n m h)

  pub from_to-over : 255 < m → Unfit ≡ from_to s n m at
  unfolding from_to bound_limit
  from_to-over h = simp (lt-leb m 255 h, and-false (leb n m))

  pub from_to-fit : n ≤ m → m ≤ 255 → with_greed s n (AtMost m) at ≡ from_to s n m at
  unfolding from_to bound_limit
  from_to-fit h k = simp (le-leb n m h, le-leb m 255 k)

-- A capped bound serves for the bound ----------------------------------------------

nested : {A : Type 0} (a b : Bool) (x z : A) → (if a && b then x else z) ≡ (if b then (if a then x else z) else z)
nested true true x z = refl
nested true false x z = refl
nested false true x z = refl
nested false false x z = refl

fits : bound_limit < 1000
unfolding bound_limit
fits = omega arith

at_least-capped : (s : List ℕ) (n at : ℕ) → at_least s (capped n) at ≡ at_least s n at
unfolding at_least
at_least-capped s n at = capped-if bound_limit fits n (λ k. with_greed s k Unlimited at) Unfit

-- the test of the bound first
by_high : (s : List ℕ) (n m at : ℕ) → from_to s n m at ≡ (if leb m bound_limit then (if leb n m then with_greed s n (AtMost m) at else Unfit) else Unfit)
unfolding from_to
by_high s n m at = nested (leb n m) (leb m bound_limit) (with_greed s n (AtMost m) at) Unfit

module _ (s : List ℕ) (n m at : ℕ) where
  from_to-high : from_to s n (capped m) at ≡ from_to s n m at
  from_to-high =
      by_high s n (capped m) at
      ∙ capped-if bound_limit fits m (λ k. if leb n k then with_greed s n (AtMost k) at else Unfit) Unfit
      ∙ sym (by_high s n m at)

  from_to-low : from_to s (capped n) m at ≡ from_to s n m at
  from_to-low =
      by_high s (capped n) m at
      ∙ if-same (leb m bound_limit) _ _ Unfit (λ e. capped-if m (omega (arith, fits, leb-true m bound_limit e)) n (λ k. with_greed s k (AtMost m) at) Unfit)
      ∙ sym (by_high s n m at)

upper-capped : (s : List ℕ) (n at : ℕ) → upper s (capped n) at ≡ upper s n at
unfolding upper
upper-capped s n at = rw (at_least-capped s n (at + 1), from_to-low s n (value 10 (digits 10 s at)) (at + length (digits 10 s at) + 1))

-- Braces ----------------------------------------------------------------------------

pub upper-close : (s : List ℕ) (n at b : ℕ) → b ≡ byte s at → b ≡ 125 → at_least s n (at + 1) ≡ upper s n at
unfolding upper
upper-close s n at b p e = rw (← p, e)

module _ (s : List ℕ) (at : ℕ) (r : Parsed ℕ) (c : Counts 10 s at r) where
  pub braces-empty : r.next ≡ at → Stray ≡ braces s at
  unfolding braces
  braces-empty e = simp (counted_none 10 s at r c e)

  module _ (ne : r.next ≡ at → ⊥) (b : ℕ) (q : b ≡ byte s r.next) where
    pub braces-close : b ≡ 125 → from_to s r.value r.value (r.next + 1) ≡ braces s at
    unfolding braces
    braces-close e =
        let n = value 10 (digits 10 s at) in
        rw (← c.next, ← q, e, c.value) (simp (counted-some 10 s at r c ne) (from_to-high s (capped n) n (r.next + 1) ∙ from_to-low s n n (r.next + 1)))

    pub braces-comma : b ≡ 44 → upper s r.value (r.next + 1) ≡ braces s at
    unfolding braces
    braces-comma e = rw (← c.next, ← q, e, c.value) (simp (counted-some 10 s at r c ne) (upper-capped s (value 10 (digits 10 s at)) (r.next + 1)))

    pub braces-other : (b ≡ 125 → ⊥) → (b ≡ 44 → ⊥) → Stray ≡ braces s at
    unfolding braces
    braces-other n1 n2 = rw (← c.next, ← q) (simp (counted-some 10 s at r c ne, ne_eqb b 125 n1, ne_eqb b 44 n2))

  module _ (n b : ℕ) (p : b ≡ byte s at) (n1 : b ≡ 125 → ⊥) where
    pub upper-empty : r.next ≡ at → Stray ≡ upper s n at
    unfolding upper
    upper-empty e = rw (← p) (simp (ne_eqb b 125 n1, counted_none 10 s at r c e))

    module _ (ne : r.next ≡ at → ⊥) (d : ℕ) (q : d ≡ byte s r.next) where
      pub upper-both : d ≡ 125 → from_to s n r.value (r.next + 1) ≡ upper s n at
      unfolding upper
      upper-both e = rw (← c.next, ← p, ← q, e, c.value) (simp (ne_eqb b 125 n1, counted-some 10 s at r c ne) (from_to-high s n (value 10 (digits 10 s at)) (r.next + 1)))

      pub upper-other : (d ≡ 125 → ⊥) → Stray ≡ upper s n at
      unfolding upper
      upper-other n2 = rw (← c.next, ← p, ← q) (simp (ne_eqb b 125 n1, counted-some 10 s at r c ne, ne_eqb d 125 n2))

-- By the first byte -------------------------------------------------------------------

module _ (s : List ℕ) (at b : ℕ) (p : b ≡ byte s at) where
  pub quantifier-star : b ≡ 42 → with_greed s 0 Unlimited (at + 1) ≡ quantifier s at
  unfolding quantifier
  quantifier-star e = rw (← p, e)

  pub quantifier-plus : b ≡ 43 → with_greed s 1 Unlimited (at + 1) ≡ quantifier s at
  unfolding quantifier
  quantifier-plus e = rw (← p, e)

  pub quantifier-option : b ≡ 63 → with_greed s 0 (AtMost 1) (at + 1) ≡ quantifier s at
  unfolding quantifier
  quantifier-option e = rw (← p, e)

  pub quantifier-brace : b ≡ 123 → braces s (at + 1) ≡ quantifier s at
  unfolding quantifier
  quantifier-brace e = rw (← p, e)

  pub quantifier-none : (b ≡ 42 → ⊥) → (b ≡ 43 → ⊥) → (b ≡ 63 → ⊥) → (b ≡ 123 → ⊥) → Absent ≡ quantifier s at
  unfolding quantifier
  quantifier-none n1 n2 n3 n4 = rw (← p) (simp (ne_eqb b 42 n1, ne_eqb b 43 n2, ne_eqb b 63 n3, ne_eqb b 123 n4))
