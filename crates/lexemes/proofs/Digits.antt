-- Laws of digits, and of a loop over the digits at a position. Assumes nothing.
use mathlib.Core.Path.{◌≡◌, refl, ap, sym, ◌∙◌}
use mathlib.Core.List.{List, [], ◌∷◌}
use mathlib.Core.Bool.{true, false, ◌&&◌, and-false}
use mathlib.Core.Logic.{◌⊎◌, inl, inr}
use Prim.Native.Nat.{ℕ, ◌+◌, ◌-◌, ◌*◌, ◌≤◌, ◌<◌}
use native.Mathlib.Omega.{arith}
use native.Mathlib.Decide.{dec_lt}
use native.Mathlib.Nat.{mul-le-mul_left}
use native.Mathlib.Numerals.{add-one}
use lib.ListN.{length, drop_of_length-le}
use lib.Dec.{leb}
use lib.Seq.{drop-cons}
use borrow.Author.Tests.{lt-ltb, le-ltb, le-leb, lt-leb}
use Rattle.std.specs.Prelude.{Option, None, Some, MatchOption}
use Rattle.std.specs.Option.{SomeIff}
use Rattle.std.specs.Char.{digit_value as std_value}
use Rattle.syntax.specs.Read.{byte}
use Rattle.syntax.specs.Numbers.{run, digit_value, is_digit, digits, value_from, value, is_none}
use Rattle.syntax.specs.Laws.Fuel.{byte_past}
use Rattle.syntax.specs.declared.Parsed.{Parsed}
use Rattle.lexemes.specs.Says.{IsDigitAt, capped, Counts}
use Rattle.lexemes.proofs.Capped.{capped-over, capped-most, capped_same, capped-by}

-- What a digit stands for -----------------------------------------------------

pub inside : (low high b : ℕ) → low ≤ b → b ≤ high → (leb low b && leb b high) ≡ true
inside low high b h k = simp (le-leb low b h, le-leb b high k)

pub outside : (low high b : ℕ) → (b < low) ⊎ (high < b) → (leb low b && leb b high) ≡ false
outside low high b (inl h) = simp (lt-leb low b h)
outside low high b (inr h) = simp (lt-leb b high h) (and-false (leb low b))

pub digit-decimal : (b : ℕ) → 48 ≤ b → b ≤ 57 → digit_value b ≡ b - 48
unfolding digit_value
digit-decimal b h k = simp (inside 48 57 b h k)

pub digit-upper : (b : ℕ) → 65 ≤ b → b ≤ 70 → digit_value b ≡ b - 65 + 10
unfolding digit_value
digit-upper b h k = simp (outside 48 57 b (inr (omega arith)), inside 65 70 b h k)

pub digit-lower : (b : ℕ) → 97 ≤ b → b ≤ 102 → digit_value b ≡ b - 97 + 10
unfolding digit_value
digit-lower b h k = simp (outside 48 57 b (inr (omega arith)), outside 65 70 b (inr (omega arith)), inside 97 102 b h k)

pub no_digit : (b : ℕ) → (b < 48) ⊎ (57 < b) → (b < 65) ⊎ (70 < b) → (b < 97) ⊎ (102 < b) → digit_value b ≡ 16
unfolding digit_value
no_digit b d u l = simp (outside 48 57 b d, outside 65 70 b u, outside 97 102 b l)

-- std reads letters over `f` too, and says 36 of what is no digit: below 16 it says the same
Same : (b std : ℕ) → Type 0
Same b std = ((std < 16) × (digit_value b ≡ std)) ⊎ ((16 ≤ std) × (digit_value b ≡ 16))

same : (b : ℕ) → Same b (std_value b)
unfolding Same
same b = go (dec_lt b 48) (dec_lt b 58) (dec_lt b 65) (dec_lt b 71) (dec_lt b 91) (dec_lt b 97) (dec_lt b 103) (dec_lt b 123)
  where
    go : Dec (b < 48) → Dec (b < 58) → Dec (b < 65) → Dec (b < 71) → Dec (b < 91) → Dec (b < 97) → Dec (b < 103) → Dec (b < 123) → Same b (std_value b)
    go (yes h) h1 h2 h3 h4 h5 h6 h7 = rw (lt-ltb b 48 h) (inr (omega arith, no_digit b (inl h) (inl (omega arith)) (inl (omega arith))))
    go (no h) (yes h1) h2 h3 h4 h5 h6 h7 = rw (le-ltb b 48 (omega arith), lt-ltb b 58 h1) (inl (omega arith, digit-decimal b (omega arith) (omega arith)))
    go (no h) (no h1) (yes h2) h3 h4 h5 h6 h7 = rw (le-ltb b 48 (omega arith), le-ltb b 58 (omega arith), lt-ltb b 65 h2) (inr (omega arith, no_digit b (inr (omega arith)) (inl (omega arith)) (inl (omega arith))))
    go (no h) (no h1) (no h2) (yes h3) h4 h5 h6 h7 =
        rw (le-ltb b 48 (omega arith), le-ltb b 58 (omega arith), le-ltb b 65 (omega arith), lt-ltb b 91 (omega arith)) (inl (omega arith, digit-upper b (omega arith) (omega arith) ∙ omega arith))
    go (no h) (no h1) (no h2) (no h3) (yes h4) h5 h6 h7 =
        rw (le-ltb b 48 (omega arith), le-ltb b 58 (omega arith), le-ltb b 65 (omega arith), lt-ltb b 91 h4) (inr (omega arith, no_digit b (inr (omega arith)) (inr (omega arith)) (inl (omega arith))))
    go (no h) (no h1) (no h2) (no h3) (no h4) (yes h5) h6 h7 =
        rw (le-ltb b 48 (omega arith), le-ltb b 58 (omega arith), le-ltb b 65 (omega arith), le-ltb b 91 (omega arith), lt-ltb b 97 h5) (inr (omega arith, no_digit b (inr (omega arith)) (inr (omega arith)) (inl (omega arith))))
    go (no h) (no h1) (no h2) (no h3) (no h4) (no h5) (yes h6) h7 =
        rw (le-ltb b 48 (omega arith), le-ltb b 58 (omega arith), le-ltb b 65 (omega arith), le-ltb b 91 (omega arith), le-ltb b 97 (omega arith), lt-ltb b 123 (omega arith))
        (inl (omega arith, digit-lower b (omega arith) (omega arith) ∙ omega arith))
    go (no h) (no h1) (no h2) (no h3) (no h4) (no h5) (no h6) (yes h7) =
        rw (le-ltb b 48 (omega arith), le-ltb b 58 (omega arith), le-ltb b 65 (omega arith), le-ltb b 91 (omega arith), le-ltb b 97 (omega arith), lt-ltb b 123 h7)
        (inr (omega arith, no_digit b (inr (omega arith)) (inr (omega arith)) (inr (omega arith))))
    go (no h) (no h1) (no h2) (no h3) (no h4) (no h5) (no h6) (no h7) =
        rw (le-ltb b 48 (omega arith), le-ltb b 58 (omega arith), le-ltb b 65 (omega arith), le-ltb b 91 (omega arith), le-ltb b 97 (omega arith), le-ltb b 123 (omega arith))
        (inr (omega arith, no_digit b (inr (omega arith)) (inr (omega arith)) (inr (omega arith))))

told-by : (base b : ℕ) → base ≤ 16 → Same b (std_value b) → (o : Option ℕ) → SomeIff o (std_value b < base) (std_value b) → MatchOption o (base ≤ digit_value b) (λ d. (d ≡ digit_value b) × (d < base))
unfolding Same
told-by base b h (inl s) None n = omega arith
told-by base b h (inr s) None n = omega arith
told-by base b h (inl s) (Some d) k = (k.1 ∙ sym s.1, omega arith)
told-by base b h (inr s) (Some d) k = absurd (omega arith)

-- what std answers of the byte at a position
pub told-at : (base : ℕ) (s : List ℕ) (at : ℕ) → base ≤ 16 → (b : ℕ) → b ≡ byte s at → (o : Option ℕ) → SomeIff o (std_value b < base) (std_value b) → IsDigitAt base s at o
told-at base s at h b e o k = rw (← e) (told-by base b h (same b) o k)

-- The digits at a position ------------------------------------------------------

-- no digit stands past the end
pub digit-past : (s : List ℕ) (i base : ℕ) → length s ≤ i → base ≤ 16 → base ≤ digit_value (byte s i)
digit-past s i base h low = let e : digit_value (byte s i) ≡ 16 = rw (byte_past s i h) (unfold digit_value in refl) in omega arith

digit-in-by : (base : ℕ) (s : List ℕ) (i : ℕ) → base ≤ 16 → digit_value (byte s i) < base → Dec (i < length s) → i < length s
digit-in-by base s i low h (yes l) = l
digit-in-by base s i low h (no l) = let e = digit-past s i base (omega arith) low in absurd (omega arith)

pub digit-in : (base : ℕ) (s : List ℕ) (i : ℕ) → base ≤ 16 → digit_value (byte s i) < base → i < length s
digit-in base s i low h = digit-in-by base s i low h (dec_lt i (length s))

module _ (base : ℕ) (s : List ℕ) (i : ℕ) where
  stop-by : base ≤ digit_value (byte s i) → Dec (i < length s) → digits base s i ≡ []
  unfolding digits run is_digit byte
  stop-by h (yes k) = rw (drop-cons s i 256 k) (simp (le-ltb _ base h))
  stop-by h (no k) = let k : length s ≤ i = omega arith in rw (drop_of_length-le s k)

  pub digits-stop : base ≤ digit_value (byte s i) → digits base s i ≡ []
  digits-stop h = stop-by h (dec_lt i (length s))

  pub digits-on : i < length s → digit_value (byte s i) < base → digits base s i ≡ byte s i ∷ digits base s (i + 1)
  unfolding digits run is_digit byte
  digits-on h k = rw (drop-cons s i 256 h, add-one i) (simp (lt-ltb _ base k))

-- A loop over digits ---------------------------------------------------------------

-- numbers that are equal or both over 999 stay so behind more digits
Close : ℕ → ℕ → Type 0
Close a b = (a ≡ b) ⊎ ((1000 ≤ a) × (1000 ≤ b))

close-capped : (n : ℕ) → Close (capped n) n
unfolding Close
close-capped n = capped-by Close n (λ h. inl refl) (λ h. inr (omega arith, h))

module _ (base : ℕ) (real : 1 ≤ base) where
  grows : (n d : ℕ) → 1000 ≤ n → 1000 ≤ n * base + d
  grows n d h = let k : n * 1 ≤ n * base = mul-le-mul_left n real in omega arith

  close-digits : (ds : List ℕ) (a b : ℕ) → Close a b → capped (value_from base a ds) ≡ capped (value_from base b ds)
  unfolding value_from Close
  close-digits [] a b (inl e) = ap capped e
  close-digits [] a b (inr h) = capped-over a h.0 ∙ sym (capped-over b h.1)
  close-digits (d ∷ ds) a b (inl e) = rw e
  close-digits (d ∷ ds) a b (inr h) =
      close-digits ds (a * base + digit_value d) (b * base + digit_value d) (inr (grows a (digit_value d) h.0, grows b (digit_value d) h.1))

  capped-digits : (ds : List ℕ) (n : ℕ) → capped (value_from base n ds) ≡ capped (value_from base (capped n) ds)
  capped-digits ds n = sym (close-digits ds (capped n) n (close-capped n))

-- what a loop over the digits from `from` on has passed at i, with the number v
pub record Passed (base : ℕ) (s : List ℕ) (from i v : ℕ) : Type 0 where
  pub begins : from ≤ i
  pub within : i ≤ length s
  pub small : v ≤ 1000
  pub number : capped (value base (digits base s from)) ≡ capped (value_from base v (digits base s i))
  pub next : from + length (digits base s from) ≡ i + length (digits base s i)

module _ (base : ℕ) (s : List ℕ) (from : ℕ) where
  pub passed_none : from ≤ length s → Passed base s from from 0
  passed_none h = record { begins = omega arith; within = h; small = omega arith; number = unfold value in refl; next = refl }

  module _ (i v : ℕ) (p : Passed base s from i v) where
    pub stops : base ≤ digit_value (byte s i) → Counts base s from (record { value = v; next = i })
    stops h =
        let e = digits-stop base s i h in
        let k : from + length (digits base s from) ≡ i = p.next ∙ rw e (omega arith) in
        let n : capped (value base (digits base s from)) ≡ v = p.number ∙ rw e (unfold value_from in capped_same v p.small) in
        record { next = sym k; value = sym n; within = p.within }

    pub stops-end : length s ≤ i → base ≤ 16 → Counts base s from (record { value = v; next = length s })
    stops-end h low = let e : length s ≡ i = omega (arith, p.within) in rw e (stops (digit-past s i base h low))

    pub passed-more : (d r : ℕ) → i < length s → d ≡ digit_value (byte s i) → d < base → 2 ≤ base → base ≤ 16 → r ≡ capped (v * base + d) → Passed base s from (i + 1) r
    passed-more d r l q h low high e =
        let t = digits-on base s i l (omega arith) in
        let m = capped-most (v * base + d) in
        let w : value_from base v (byte s i ∷ digits base s (i + 1)) ≡ value_from base (v * base + d) (digits base s (i + 1)) = unfold value_from in rw q in
        record {
          begins = omega (arith, p.begins);
          within = omega arith;
          small = omega arith;
          number = p.number ∙ rw (t, w, e) (capped-digits base (omega arith) (digits base s (i + 1)) (v * base + d));
          next = p.next ∙ rw t (omega arith);
        }

-- Whether there are digits -----------------------------------------------------------

none-if : (ds : List ℕ) (at : ℕ) → at + length ds ≡ at → is_none ds ≡ true
unfolding is_none
none-if [] at e = refl
none-if (d ∷ ds) at e = absurd (omega arith)

some-if : (ds : List ℕ) (at : ℕ) → (at + length ds ≡ at → ⊥) → is_none ds ≡ false
unfolding is_none
some-if [] at h = absurd (h (omega arith))
some-if (d ∷ ds) at h = refl

module _ (base : ℕ) (s : List ℕ) (at : ℕ) (r : Parsed ℕ) (c : Counts base s at r) where
  pub counted_none : r.next ≡ at → is_none (digits base s at) ≡ true
  counted_none e = none-if (digits base s at) at (omega (arith, c.next))

  pub counted-some : (r.next ≡ at → ⊥) → is_none (digits base s at) ≡ false
  counted-some h = some-if (digits base s at) at (λ e. h (omega (arith, c.next)))
