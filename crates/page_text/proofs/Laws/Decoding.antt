-- Nothing is lost: from what is shown the bytes can be read back, one after another, so that two texts that look the same are the same.
-- docs/REFERENCE.md, 19.5
use Rattle.std.specs.Prelude.{◌≡◌, refl, List, [], ◌∷◌, ◌++◌, ℕ, ◌+◌, ◌*◌, ◌/◌, ◌%◌, ◌≤◌, eqb, length, get_or, drop, if◌then◌else◌}
use Rattle.std.proofs.Common.{sym, ap, ◌∙◌, arith, ne_eqb, length-append}
use Rattle.syntax.specs.Read.{is}
use Rattle.fields_text.proofs.Laws.Decoding.{digit_value, digit-back}
use Rattle.page_text.specs.Showing.{numbered, show, shown}
use Rattle.page_text.proofs.Laws.Cases.{Case, as_less, as_greater, as_and, as_double, as_single, as_itself, as_number, case-of}

-- the byte that a shown text begins with, and the text behind it
unfoldable pub decode : List ℕ → ℕ × List ℕ
decode s =
    if eqb (get_or s 0 0) 38 then
    (if is "l" (get_or s 1 0) then (60, drop 4 s)
    else if is "g" (get_or s 1 0) then (62, drop 4 s)
    else if is "a" (get_or s 1 0) then (38, drop 5 s)
    else if is "q" (get_or s 1 0) then (34, drop 6 s)
    else if is "3" (get_or s 2 0) then (39, drop 5 s)
    else (16 * digit_value (get_or s 7 0) + digit_value (get_or s 8 0), drop 16 s))
    else (get_or s 0 0, drop 1 s)

-- a byte in front of a text
abbrev front : List ℕ → ℕ → ℕ × List ℕ
front rest b = (b, rest)

pub decode-show : (b : ℕ) (rest : List ℕ) → ◌≡◌ {A = ℕ × List ℕ} (decode (show b ++ rest)) (b, rest)
unfolding decode numbered
decode-show b rest = go (case-of b)
  where
    go : Case b → ◌≡◌ {A = ℕ × List ℕ} (decode (show b ++ rest)) (b, rest)
    go (as_less e is) = rw (is, e) refl
    go (as_greater e is) = rw (is, e) refl
    go (as_and e is) = rw (is, e) refl
    go (as_double e is) = rw (is, e) refl
    go (as_single e is) = rw (is, e) refl
    go (as_itself p is) = rw (is, ne_eqb b 38 p.no_and) refl
    go (as_number is) = rw (is, digit-back (b / 16), digit-back (b % 16)) (ap (front rest) (omega arith))

some_bytes : (b : ℕ) → 1 ≤ length (show b)
unfolding numbered
some_bytes b = go (case-of b)
  where
    go : Case b → 1 ≤ length (show b)
    go (as_less e is) = rw is (omega arith)
    go (as_greater e is) = rw is (omega arith)
    go (as_and e is) = rw is (omega arith)
    go (as_double e is) = rw is (omega arith)
    go (as_single e is) = rw is (omega arith)
    go (as_itself p is) = rw is (omega arith)
    go (as_number is) = rw is (omega arith)

pub shown-apart : (s t : List ℕ) → shown s ≡ shown t → s ≡ t
unfolding shown
shown-apart [] [] e = refl
shown-apart [] (c ∷ t) e = absurd (omega (arith, ap length e, length-append (show c) (shown t), some_bytes c))
shown-apart (b ∷ s) [] e = absurd (omega (arith, ap length e, length-append (show b) (shown s), some_bytes b))
shown-apart (b ∷ s) (c ∷ t) e =
    let both : ◌≡◌ {A = ℕ × List ℕ} (b, shown s) (c, shown t) = sym (decode-show b (shown s)) ∙ ap decode e ∙ decode-show c (shown t) in
    let h : b ≡ c = ap (λ (p : ℕ × List ℕ). p.0) both in
    let k : s ≡ t = shown-apart s t (ap (λ (p : ℕ × List ℕ). p.1) both) in
    cc
