-- "A line's bytes can never become markup": what is shown of bytes has no `<`, no `>`, no quote, no byte below 20 and none above 7E; and each `&` in it
-- begins a reference, to one of seven characters.
-- docs/REFERENCE.md, 19.5
use Rattle.std.specs.Prelude.{◌≡◌, refl, List, [], ◌∷◌, ◌++◌, Bool, true, false, not, ◌&&◌, ◌||◌, ℕ, ◌+◌, ◌/◌, ◌%◌, ◌≤◌, ◌<◌, leb, ltb, eqb, if◌then◌else◌}
use Rattle.std.proofs.Common.{◌∙◌, arith, ne_eqb, le-leb, ltb-true, ltb-false}
use Rattle.syntax.specs.Read.{bytes}
use Rattle.text.specs.Numbers.{hex_digit}
use Rattle.page_text.specs.Showing.{numbered, show, shown}
use Rattle.page_text.proofs.Laws.Cases.{Case, as_less, as_greater, as_and, as_double, as_single, as_itself, as_number, case-of}

-- No markup -----------------------------------------------------------------

-- a byte that begins no markup, ends none, and is printed
unfoldable pub is_harmless : ℕ → Bool
is_harmless b = leb 0x20 b && leb b 0x7E && not (eqb b 0x3C) && not (eqb b 0x3E) && not (eqb b 0x22) && not (eqb b 0x27)

unfoldable pub harmless : List ℕ → Bool
harmless [] = true
harmless (b ∷ s) = is_harmless b && harmless s

is-harmless : (b : ℕ) → 32 ≤ b → b ≤ 126 → (b ≡ 60 → ⊥) → (b ≡ 62 → ⊥) → (b ≡ 34 → ⊥) → (b ≡ 39 → ⊥) → is_harmless b ≡ true
unfolding is_harmless
is-harmless b l h p q r s = rw (le-leb 32 b l, le-leb b 126 h, ne_eqb b 60 p, ne_eqb b 62 q, ne_eqb b 34 r, ne_eqb b 39 s)

hex-harmless : (d : ℕ) → d < 16 → is_harmless (hex_digit d) ≡ true
unfolding hex_digit
hex-harmless d k = go (ltb d 10) refl
  where
    go : (t : Bool) → ltb d 10 ≡ t → is_harmless (if t then 48 + d else 55 + d) ≡ true
    go true e = let h : d < 10 = ltb-true d 10 e in is-harmless (48 + d) (omega arith) (omega arith) (λ x. omega arith) (λ x. omega arith) (λ x. omega arith) (λ x. omega arith)
    go false e = let h : 10 ≤ d = ltb-false d 10 e in is-harmless (55 + d) (omega arith) (omega arith) (λ x. omega arith) (λ x. omega arith) (λ x. omega arith) (λ x. omega arith)

harmless-more : (b : ℕ) (rest : List ℕ) → is_harmless b ≡ true → harmless (b ∷ rest) ≡ harmless rest
unfolding harmless
harmless-more b rest e = rw e

show-harmless : (b : ℕ) → b < 256 → (rest : List ℕ) → harmless (show b ++ rest) ≡ harmless rest
unfolding numbered harmless is_harmless
show-harmless b k rest = go (case-of b)
  where
    go : Case b → harmless (show b ++ rest) ≡ harmless rest
    go (as_less e is) = rw is refl
    go (as_greater e is) = rw is refl
    go (as_and e is) = rw is refl
    go (as_double e is) = rw is refl
    go (as_single e is) = rw is refl
    go (as_itself p is) = rw is (harmless-more b rest (is-harmless b p.low p.high p.no_less p.no_greater p.no_double p.no_single))
    go (as_number is) =
        rw is
        (harmless-more (hex_digit (b / 16)) (hex_digit (b % 16) ∷ (bytes "&#8250;" ++ rest)) (hex-harmless (b / 16) (omega arith))
        ∙ harmless-more (hex_digit (b % 16)) (bytes "&#8250;" ++ rest) (hex-harmless (b % 16) (omega arith)))

-- the numbers of a list are bytes
abbrev pub Bytes : List ℕ → Type 0
Bytes [] = Unit {0}
Bytes (b ∷ s) = (b < 256) × Bytes s

pub shown-harmless : (s : List ℕ) → Bytes s → harmless (shown s) ≡ true
unfolding shown harmless
shown-harmless [] k = refl
shown-harmless (b ∷ s) k = show-harmless b k.0 (shown s) ∙ shown-harmless s k.1

-- References ----------------------------------------------------------------

-- whether a text begins with another one
unfoldable pub begins : (with text : List ℕ) → Bool
begins [] s = true
begins (a ∷ p) [] = false
begins (a ∷ p) (b ∷ s) = eqb a b && begins p s

-- what stands behind an `&` that begins a reference
unfoldable pub refers : List ℕ → Bool
refers s = begins (bytes "lt;") s || begins (bytes "gt;") s || begins (bytes "amp;") s || begins (bytes "quot;") s || begins (bytes "#39;") s || begins (bytes "#8249;") s || begins (bytes "#8250;") s

-- each `&` begins a reference
unfoldable pub referenced : List ℕ → Bool
referenced [] = true
referenced (b ∷ s) = (if eqb b 0x26 then refers s else true) && referenced s

hex-no_and : (d : ℕ) → hex_digit d ≡ 38 → ⊥
unfolding hex_digit
hex-no_and d = go (ltb d 10)
  where
    go : (t : Bool) → (if t then 48 + d else 55 + d) ≡ 38 → ⊥
    go true e = omega arith
    go false e = omega arith

show-referenced : (b : ℕ) (rest : List ℕ) → referenced (show b ++ rest) ≡ referenced rest
unfolding numbered referenced refers begins
show-referenced b rest = go (case-of b)
  where
    go : Case b → referenced (show b ++ rest) ≡ referenced rest
    go (as_less e is) = rw is refl
    go (as_greater e is) = rw is refl
    go (as_and e is) = rw is refl
    go (as_double e is) = rw is refl
    go (as_single e is) = rw is refl
    go (as_itself p is) = rw (is, ne_eqb b 38 p.no_and) refl
    go (as_number is) = rw (is, ne_eqb (hex_digit (b / 16)) 38 (hex-no_and (b / 16)), ne_eqb (hex_digit (b % 16)) 38 (hex-no_and (b % 16))) refl

pub shown-referenced : (s : List ℕ) → referenced (shown s) ≡ true
unfolding shown referenced
shown-referenced [] = refl
shown-referenced (b ∷ s) = show-referenced b (shown s) ∙ shown-referenced s
