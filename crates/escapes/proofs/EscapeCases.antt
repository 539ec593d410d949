-- Which case of an escape holds, from the tests that the readers make. Assumes nothing.
use mathlib.Core.Path.{◌≡◌, refl}
use mathlib.Core.List.{List, [], ◌∷◌}
use mathlib.Core.Bool.{true, false, ◌&&◌}
use mathlib.Core.Logic.{◌⊎◌, inl, inr}
use Prim.Native.Nat.{ℕ, ◌+◌, ◌-◌, ◌*◌, ◌/◌, ◌%◌, ◌≤◌, ◌<◌}
use native.Mathlib.Omega.{arith}
use native.Mathlib.Decide.{dec_lt}
use Prim.Native.Char.{code}
use lib.Dec.{leb, eqb}
use borrow.Author.Tests.{le-leb, lt-leb, eq-eqb, ne_eqb}
use Rattle.syntax.specs.declared.Reason.TheVariants.{TrailingBackslash, UnknownEscape, MalformedEscape}
use Rattle.syntax.specs.Limits.{byte_limit}
use Rattle.syntax.specs.Read.{byte, is_end, sound, refused}
use Rattle.charset.specs.declared.Named.TheVariants.{Word}
use Rattle.charset.specs.Named.{in_named}
use Rattle.syntax.specs.Sets.{single}
use Rattle.syntax.specs.Numbers.{digit_value, digits, value_from, value}
use Rattle.syntax.specs.Escapes.{Meaning, ◌means◌, meanings, byte_of, braced, hex, braced_octal, octal, flip64, control, letter, common, class_escape}
use Rattle.syntax.specs.declared.Parsed.{Parsed}
use Rattle.lexemes.specs.Says.{capped, Counts}
use Rattle.lexemes.proofs.Capped.{capped-if}
use Rattle.lexemes.proofs.Digits.{inside, outside, digit-in, digits-stop, digits-on, counted_none, counted-some}

-- Numbers -----------------------------------------------------------------------

pub byte_of-over : (at v next : ℕ) → 255 < v → refused at MalformedEscape ≡ byte_of at v next
unfolding byte_of byte_limit
byte_of-over at v next h = simp (lt-leb v 255 h)

pub byte_of-fits : (at v next : ℕ) → v ≤ 255 → sound (single v) next ≡ byte_of at v next
unfolding byte_of byte_limit
byte_of-fits at v next h = simp (le-leb v 255 h)

byte_of-capped : (at v next : ℕ) → byte_of at (capped v) next ≡ byte_of at v next
unfolding byte_of byte_limit
byte_of-capped at v next = capped-if 255 (omega arith) v (λ n. sound (single n) next) (refused at MalformedEscape)

byte_of-same : (at v w m n : ℕ) → v ≡ w → m ≡ n → byte_of at v m ≡ byte_of at w n
byte_of-same at v w m n e f = cc

module _ (base : ℕ) (s : List ℕ) (at start : ℕ) (r : Parsed ℕ) (c : Counts base s start r) where
  pub braced-none : r.next ≡ start → refused at MalformedEscape ≡ braced base s at start
  unfolding braced
  braced-none e = simp (counted_none base s start r c e)

  module _ (some : r.next ≡ start → ⊥) (b : ℕ) (p : b ≡ byte s r.next) where
    pub braced-close : b ≡ 125 → byte_of at r.value (r.next + 1) ≡ braced base s at start
    unfolding braced
    braced-close e = rw (← c.next, ← p, e, c.value) (simp (counted-some base s start r c some) (byte_of-capped at (value base (digits base s start)) (r.next + 1)))

    pub braced-open : (b ≡ 125 → ⊥) → refused at MalformedEscape ≡ braced base s at start
    unfolding braced
    braced-open n = rw (← c.next, ← p) (simp (counted-some base s start r c some, ne_eqb b 125 n))

-- a digit stands before those behind it
digit-more : (base : ℕ) (s : List ℕ) (i j d : ℕ) → base ≤ 16 → j ≡ i + 1 → d ≡ digit_value (byte s i) → d < base → digits base s i ≡ byte s i ∷ digits base s j
digit-more base s i j d l e q h = rw e (digits-on base s i (digit-in base s i l (omega arith)) (omega arith))

module _ (s : List ℕ) (at b : ℕ) (p : b ≡ byte s (at + 2)) where
  pub hex-braced : b ≡ 123 → braced 16 s at (at + 3) ≡ hex s at
  unfolding hex
  hex-braced e = rw (← p, e)

  module _ (n : b ≡ 123 → ⊥) where
    pub hex-none : 16 ≤ digit_value (byte s (at + 2)) → refused at MalformedEscape ≡ hex s at
    unfolding hex
    hex-none l = rw (← p, digits-stop 16 s (at + 2) l) (simp (ne_eqb b 123 n))

    module _ (h : ℕ) (k : (h ≡ digit_value (byte s (at + 2))) × (h < 16)) where
      first : digits 16 s (at + 2) ≡ byte s (at + 2) ∷ digits 16 s (at + 3)
      first = digit-more 16 s (at + 2) (at + 3) h (omega arith) (omega arith) k.0 k.1

      pub hex-one : 16 ≤ digit_value (byte s (at + 3)) → refused at MalformedEscape ≡ hex s at
      unfolding hex
      hex-one m = rw (first, digits-stop 16 s (at + 3) m, ← p) (simp (ne_eqb b 123 n))

      pub hex-two : (l : ℕ) → (l ≡ digit_value (byte s (at + 3))) × (l < 16) → byte_of at (h * 16 + l) (at + 4) ≡ hex s at
      unfolding hex value value_from
      hex-two l m = rw (first, digit-more 16 s (at + 3) (at + 4) l (omega arith) (omega arith) m.0 m.1, k.0, m.0, ← p) (simp (ne_eqb b 123 n) (byte_of-same at _ _ _ _ (omega arith) refl))

pub octal-braced : (s : List ℕ) (at b : ℕ) → b ≡ byte s (at + 2) → b ≡ 123 → braced 8 s at (at + 3) ≡ braced_octal s at
unfolding braced_octal
octal-braced s at b p e = rw (← p, e)

pub octal-bare : (s : List ℕ) (at b : ℕ) → b ≡ byte s (at + 2) → (b ≡ 123 → ⊥) → refused at MalformedEscape ≡ braced_octal s at
unfolding braced_octal
octal-bare s at b p n = rw (← p) (simp (ne_eqb b 123 n))

-- up to three octal digits
module _ (s : List ℕ) (at : ℕ) where
  pub octal-none : 8 ≤ digit_value (byte s (at + 1)) → byte_of at 0 (at + 1) ≡ octal s at
  unfolding octal value value_from
  octal-none l = rw (digits-stop 8 s (at + 1) l) (byte_of-same at _ _ _ _ (omega arith) (omega arith))

  module _ (h : ℕ) (k : (h ≡ digit_value (byte s (at + 1))) × (h < 8)) where
    one_more : digits 8 s (at + 1) ≡ byte s (at + 1) ∷ digits 8 s (at + 2)
    one_more = digit-more 8 s (at + 1) (at + 2) h (omega arith) (omega arith) k.0 k.1

    pub octal-one : 8 ≤ digit_value (byte s (at + 2)) → byte_of at h (at + 2) ≡ octal s at
    unfolding octal value value_from
    octal-one l = rw (one_more, digits-stop 8 s (at + 2) l) (byte_of-same at _ _ _ _ (omega (arith, k.0)) (omega arith))

    module _ (m : ℕ) (j : (m ≡ digit_value (byte s (at + 2))) × (m < 8)) where
      two-more : digits 8 s (at + 2) ≡ byte s (at + 2) ∷ digits 8 s (at + 3)
      two-more = digit-more 8 s (at + 2) (at + 3) m (omega arith) (omega arith) j.0 j.1

      pub octal-two : 8 ≤ digit_value (byte s (at + 3)) → byte_of at (h * 8 + m) (at + 3) ≡ octal s at
      unfolding octal value value_from
      octal-two o = rw (one_more, two-more, digits-stop 8 s (at + 3) o) (byte_of-same at _ _ _ _ (omega (arith, k.0, j.0)) (omega arith))

      pub octal-three : (l : ℕ) → (l ≡ digit_value (byte s (at + 3))) × (l < 8) → byte_of at ((h * 8 + m) * 8 + l) (at + 4) ≡ octal s at
      unfolding octal value value_from
      octal-three l o = rw (one_more, two-more, digit-more 8 s (at + 3) (at + 4) l (omega arith) (omega arith) o.0 o.1) (byte_of-same at _ _ _ _ (omega (arith, k.0, j.0, o.0)) (omega arith))

-- Control characters --------------------------------------------------------------

-- a byte that stands before or behind all those that `\c` takes
far : (b n : ℕ) → (b < 63) ⊎ (122 < b) → 63 ≤ n → n ≤ 122 → b ≡ n → ⊥
far b n (inl h) l m e = omega arith
far b n (inr h) l m e = omega arith

out : (b low high : ℕ) → (b < 63) ⊎ (122 < b) → 63 ≤ low → high ≤ 122 → (leb low b && leb b high) ≡ false
out b low high (inl h) l m = outside low high b (inl (omega arith))
out b low high (inr h) l m = outside low high b (inr (omega arith))

module _ (s : List ℕ) (at b : ℕ) (p : b ≡ byte s (at + 2)) where
  pub control-far : (b < 63) ⊎ (122 < b) → refused at MalformedEscape ≡ control s at
  unfolding control
  control-far h =
      let ne : (n : ℕ) → 63 ≤ n → n ≤ 122 → eqb b n ≡ false = λ n l m. ne_eqb b n (far b n h l m) in
      rw (← p)
      (simp (out b 97 122 h (omega arith) (omega arith), out b 65 90 h (omega arith) (omega arith), ne 63 (omega arith) (omega arith), ne 64 (omega arith) (omega arith), ne 91 (omega arith) (omega arith), ne 93 (omega arith) (omega arith), ne 94 (omega arith) (omega arith), ne 95 (omega arith) (omega arith)))

  pub control-question : b ≡ 63 → sound (single 127) (at + 3) ≡ control s at
  unfolding control flip64
  control-question e = rw (← p, e)

  pub control-backslash : b ≡ 92 → refused at MalformedEscape ≡ control s at
  unfolding control
  control-backslash e = rw (← p, e)

  pub control-backquote : b ≡ 96 → refused at MalformedEscape ≡ control s at
  unfolding control
  control-backquote e = rw (← p, e)

  marked : Dec (b < 65) → Dec (b < 91) → Dec (b < 92) → Dec (b < 94) → Dec (b < 95) → 64 ≤ b → b ≤ 95 → (b ≡ 92 → ⊥) → sound (single (b - 64)) (at + 3) ≡ control s at
  unfolding control flip64
  marked (yes d) _ _ _ _ h k n = let e : b ≡ 64 = omega arith in rw (← p, e)
  marked (no c) (yes d) _ _ _ h k n = let e : b / 64 % 2 ≡ 1 = omega arith in rw (← p) (simp (outside 97 122 b (inl (omega arith)), inside 65 90 b (omega arith) (omega arith), e))
  marked (no c) (no d) (yes f) _ _ h k n = let e : b ≡ 91 = omega arith in rw (← p, e)
  marked (no c) (no d) (no f) (yes g) _ h k n = let e : b ≡ 93 = omega arith in rw (← p, e)
  marked (no c) (no d) (no f) (no g) (yes i) h k n = let e : b ≡ 94 = omega arith in rw (← p, e)
  marked (no c) (no d) (no f) (no g) (no i) h k n = let e : b ≡ 95 = omega arith in rw (← p, e)

  pub control-mark : 64 ≤ b → b ≤ 95 → (b ≡ 92 → ⊥) → sound (single (b - 64)) (at + 3) ≡ control s at
  control-mark = marked (dec_lt b 65) (dec_lt b 91) (dec_lt b 92) (dec_lt b 94) (dec_lt b 95)

  pub control-lower : 97 ≤ b → b ≤ 122 → sound (single (b - 96)) (at + 3) ≡ control s at
  unfolding control flip64
  control-lower h k =
      let e : (b - 32) / 64 % 2 ≡ 1 = omega arith in
      let f : b - 96 ≡ b - 32 - 64 = omega arith in
      rw (← p, f) (simp (inside 97 122 b h k, e))

-- Escapes of one letter --------------------------------------------------------------

-- b is the character of no escape of the list
abbrev None : List Meaning → ℕ → Type 0
None [] b = Unit
None (c means m ∷ others) b = (b ≡ code c → ⊥) × None others b

pub letter-none : (ms : List Meaning) (at b : ℕ) → None ms b → refused at UnknownEscape ≡ letter ms at b
unfolding letter
letter-none [] at b h = refl
letter-none (c means m ∷ others) at b h = rw (ne_eqb b (code c) h.0) (letter-none others at b h.1)

-- By the first byte -------------------------------------------------------------------

module _ (s : List ℕ) (at b : ℕ) (p : b ≡ byte s (at + 1)) where
  pub common-end : b ≡ 256 → refused at TrailingBackslash ≡ common s at
  unfolding common is_end
  common-end e = rw (← p, e)

  module _ (n : b ≡ 256 → ⊥) where
    pub common-itself : in_named Word b ≡ false → sound (single b) (at + 2) ≡ common s at
    unfolding common is_end
    common-itself w = rw (← p) (simp (ne_eqb b 256 n, w))

    module _ (w : in_named Word b ≡ true) where
      pub common-hex : b ≡ 120 → hex s at ≡ common s at
      unfolding common is_end
      common-hex e = rw (← p) (simp (ne_eqb b 256 n, w, eq-eqb b 120 e))

      pub common-octal : (b ≡ 120 → ⊥) → b ≡ 111 → braced_octal s at ≡ common s at
      unfolding common is_end
      common-octal n1 e = rw (← p) (simp (ne_eqb b 256 n, w, ne_eqb b 120 n1, eq-eqb b 111 e))

      pub common-control : (b ≡ 120 → ⊥) → (b ≡ 111 → ⊥) → b ≡ 99 → control s at ≡ common s at
      unfolding common is_end
      common-control n1 n2 e = rw (← p) (simp (ne_eqb b 256 n, w, ne_eqb b 120 n1, ne_eqb b 111 n2, eq-eqb b 99 e))

      pub common-letter : (b ≡ 120 → ⊥) → (b ≡ 111 → ⊥) → (b ≡ 99 → ⊥) → letter meanings at b ≡ common s at
      unfolding common is_end
      common-letter n1 n2 n3 = rw (← p) (simp (ne_eqb b 256 n, w, ne_eqb b 120 n1, ne_eqb b 111 n2, ne_eqb b 99 n3))

  pub class-backspace : b ≡ 98 → sound (single 0x08) (at + 2) ≡ class_escape s at
  unfolding class_escape
  class-backspace e = rw (← p, e)

  pub class-octal : 48 ≤ b → b ≤ 55 → octal s at ≡ class_escape s at
  unfolding class_escape
  class-octal h k = rw (← p) (simp (ne_eqb b 98 (λ e. omega arith), inside 48 55 b h k))

  pub class-common : (b ≡ 98 → ⊥) → (b < 48) ⊎ (55 < b) → common s at ≡ class_escape s at
  unfolding class_escape
  class-common n o = rw (← p) (simp (ne_eqb b 98 n, outside 48 55 b o))
