-- No field is lost: from what is written for it the field can be read back, byte by byte, so that two fields that look the same are the same.
-- docs/REFERENCE.md, 19.3
use Rattle.std.specs.Prelude.{◌≡◌, refl, List, [], ◌∷◌, ◌++◌, Bool, true, false, ℕ, ◌+◌, ◌-◌, ◌*◌, ◌/◌, ◌%◌, ◌≤◌, ◌<◌, ltb, eqb, length, get_or, drop, if◌then◌else◌}
use Rattle.std.proofs.Common.{sym, ap, ◌∙◌, arith, ne_eqb, lt-ltb, le-ltb, ltb-true, ltb-false, length-append}
use Rattle.syntax.specs.Read.{is}
use Rattle.text.specs.Numbers.{hex_digit}
use Rattle.fields_text.specs.Escaping.{hexed, escape, escaped}
use Rattle.fields_text.proofs.Laws.Cases.{Case, as_tab, as_newline, as_return, as_backslash, as_itself, as_hex, case-of}

-- the number that a hexadecimal digit stands for
unfoldable pub digit_value : ℕ → ℕ
digit_value c = if ltb c 58 then c - 48 else c - 55

-- the byte that an escaped text begins with, and the text behind it
unfoldable pub decode : List ℕ → ℕ × List ℕ
decode s =
    if eqb (get_or s 0 0) 92 then
    (if is "t" (get_or s 1 0) then (9, drop 2 s)
    else if is "n" (get_or s 1 0) then (10, drop 2 s)
    else if is "r" (get_or s 1 0) then (13, drop 2 s)
    else if is "\\" (get_or s 1 0) then (92, drop 2 s)
    else (16 * digit_value (get_or s 2 0) + digit_value (get_or s 3 0), drop 4 s))
    else (get_or s 0 0, drop 1 s)

-- a byte in front of a text
abbrev front : List ℕ → ℕ → ℕ × List ℕ
front rest b = (b, rest)

pub digit-back : (d : ℕ) → digit_value (hex_digit d) ≡ d
unfolding digit_value hex_digit
digit-back d = go (ltb d 10) refl
  where
    go : (t : Bool) → ltb d 10 ≡ t → digit_value (if t then 48 + d else 55 + d) ≡ d
    go true e = let h : d < 10 = ltb-true d 10 e in rw (lt-ltb (48 + d) 58 (omega arith)) (omega arith)
    go false e = let h : 10 ≤ d = ltb-false d 10 e in rw (le-ltb (55 + d) 58 (omega arith)) (omega arith)

pub decode-escape : (b : ℕ) (rest : List ℕ) → ◌≡◌ {A = ℕ × List ℕ} (decode (escape b ++ rest)) (b, rest)
unfolding decode hexed
decode-escape b rest = go (case-of b)
  where
    go : Case b → ◌≡◌ {A = ℕ × List ℕ} (decode (escape b ++ rest)) (b, rest)
    go (as_tab e is) = rw (is, e) refl
    go (as_newline e is) = rw (is, e) refl
    go (as_return e is) = rw (is, e) refl
    go (as_backslash e is) = rw (is, e) refl
    go (as_itself h n is) = rw (is, ne_eqb b 92 n) refl
    go (as_hex is) = rw (is, digit-back (b / 16), digit-back (b % 16)) (ap (front rest) (omega arith))

some_bytes : (b : ℕ) → 1 ≤ length (escape b)
unfolding hexed
some_bytes b = go (case-of b)
  where
    go : Case b → 1 ≤ length (escape b)
    go (as_tab e is) = rw is (omega arith)
    go (as_newline e is) = rw is (omega arith)
    go (as_return e is) = rw is (omega arith)
    go (as_backslash e is) = rw is (omega arith)
    go (as_itself h n is) = rw is (omega arith)
    go (as_hex is) = rw is (omega arith)

pub escaped-apart : (s t : List ℕ) → escaped s ≡ escaped t → s ≡ t
unfolding escaped
escaped-apart [] [] e = refl
escaped-apart [] (c ∷ t) e = absurd (omega (arith, ap length e, length-append (escape c) (escaped t), some_bytes c))
escaped-apart (b ∷ s) [] e = absurd (omega (arith, ap length e, length-append (escape b) (escaped s), some_bytes b))
escaped-apart (b ∷ s) (c ∷ t) e =
    let both : ◌≡◌ {A = ℕ × List ℕ} (b, escaped s) (c, escaped t) = sym (decode-escape b (escaped s)) ∙ ap decode e ∙ decode-escape c (escaped t) in
    let h : b ≡ c = ap (λ (p : ℕ × List ℕ). p.0) both in
    let k : s ≡ t = escaped-apart s t (ap (λ (p : ℕ × List ℕ). p.1) both) in
    cc
