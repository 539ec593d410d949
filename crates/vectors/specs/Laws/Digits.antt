-- Laws of digits and of the numbers that they stand for. Assumes nothing.
use Rattle.std.specs.Prelude.{◌≡◌, refl, true, false, ◌&&◌, ◌⊎◌, ℕ, ◌+◌, ◌-◌, ◌*◌, ◌≤◌, ◌<◌, get_or, leb}
use mathlib.Core.List.{List, [], ◌∷◌}
use Rattle.std.proofs.Math.Bool.{and-false}
use Rattle.std.proofs.Common.{inl, inr, le-leb}
use native.Mathlib.Omega.{arith}
use Rattle.std.proofs.Math.Decide.{dec_lt}
use Rattle.std.proofs.Math.Numerals.{add-one}
use Rattle.std.proofs.Math.ListN.{length, drop, drop_of_length-le}
use Rattle.std.proofs.Common.{drop-cons}
use Rattle.std.proofs.lemmas.Bool.{lt-leb}
use Rattle.vectors.specs.Text.{digit_value, decimal, number_of}

-- One digit -------------------------------------------------------------------

inside : (low high b : ℕ) → low ≤ b → b ≤ high → (leb low b && leb b high) ≡ true
inside low high b h k = simp (le-leb low b h, le-leb b high k)

outside : (low high b : ℕ) → (b < low) ⊎ (high < b) → (leb low b && leb b high) ≡ false
outside low high b (inl h) = simp (lt-leb low b h)
outside low high b (inr h) = simp (lt-leb b high h) (and-false (leb low b))

pub digit-decimal : (b : ℕ) → 48 ≤ b → b ≤ 57 → digit_value b ≡ b - 48
unfolding digit_value
digit-decimal b h k = simp (inside 48 57 b h k)

pub digit-letter : (b : ℕ) → 97 ≤ b → b ≤ 102 → digit_value b ≡ b - 97 + 10
unfolding digit_value
digit-letter b h k = simp (outside 48 57 b (inr (omega arith)), inside 97 102 b h k)

pub no_digit : (b : ℕ) → (b < 48) ⊎ (57 < b) → (b < 97) ⊎ (102 < b) → digit_value b ≡ 0
unfolding digit_value
no_digit b d l = simp (outside 48 57 b d, outside 97 102 b l)

small-letter : (b : ℕ) → 57 < b → Dec (b < 97) → Dec (102 < b) → digit_value b < 16
small-letter b h (yes k) m = rw (no_digit b (inr h) (inl k)) (omega arith)
small-letter b h (no k) (yes m) = rw (no_digit b (inr h) (inr m)) (omega arith)
small-letter b h (no k) (no m) = rw (digit-letter b (omega arith) (omega arith)) (omega arith)

small_by : (b : ℕ) → Dec (b < 48) → Dec (57 < b) → digit_value b < 16
small_by b (yes h) k = rw (no_digit b (inl h) (inl (omega arith))) (omega arith)
small_by b (no h) (yes k) = small-letter b k (dec_lt b 97) (dec_lt 102 b)
small_by b (no h) (no k) = rw (digit-decimal b (omega arith) (omega arith)) (omega arith)

pub digit-small : (b r : ℕ) → r ≡ digit_value b → r < 16
digit-small b r e = rw e (small_by b (dec_lt b 48) (dec_lt 57 b))

-- A decimal number ------------------------------------------------------------

-- a number never falls where digits are added
pub decimal-least : (n : ℕ) (ds : List ℕ) → n ≤ decimal n ds
unfolding decimal
decimal-least n [] = omega arith
decimal-least n (d ∷ ds) = let h : n * 10 + digit_value d ≤ decimal (n * 10 + digit_value d) ds = decimal-least (n * 10 + digit_value d) ds in omega arith

pub number-most : (digits : List ℕ) (limit r : ℕ) → r ≡ number_of digits limit → r ≤ limit
unfolding number_of
number-most digits limit r e = omega arith

-- a loop over the digits: the first i stand for n, which has not gone beyond the limit
pub record Counted (digits : List ℕ) (limit i n : ℕ) : Type 0 where
  pub small : n ≤ limit
  pub same : decimal n (drop i digits) ≡ decimal 0 digits

module _ (digits : List ℕ) (limit : ℕ) where
  pub counted_none : Counted digits limit 0 0
  counted_none = record { small = omega arith; same = refl }

  module _ (i n : ℕ) (c : Counted digits limit i n) where
    -- the digits end: the number is theirs
    pub counted-all : length digits ≤ i → n ≡ number_of digits limit
    unfolding decimal number_of
    counted-all h =
        let none : drop i digits ≡ [] = drop_of_length-le digits h in
        let all : n ≡ decimal 0 digits = rw none at c.same in
        omega (arith, c.small)

    module _ (h : i < length digits) (m : ℕ) (e : m ≡ n * 10 + digit_value (get_or digits i 0)) where
      one_more : decimal m (drop (i + 1) digits) ≡ decimal 0 digits
      unfolding decimal
      one_more = rw (e, add-one i) (rw (drop-cons digits i 0 h) at c.same)

      pub counted-more : m ≤ limit → Counted digits limit (i + 1) m
      counted-more small = record { small = small; same = one_more }

      -- beyond the limit no further digit matters
      pub counted-over : limit < m → limit ≡ number_of digits limit
      unfolding number_of
      counted-over over = omega (arith, one_more, decimal-least m (drop (i + 1) digits))
