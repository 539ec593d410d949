-- A field is escaped one byte after another; and how long what is written for it is at most.
use Rattle.std.specs.Prelude.{◌≡◌, refl, List, [], ◌∷◌, ◌++◌, ℕ, suc, ◌+◌, ◌/◌, ◌%◌, ◌^◌, ◌≤◌, ◌<◌, length, get_or, take}
use Rattle.std.proofs.Common.{sym, ap, ◌∙◌, append_assoc, append-nil, add-one, take-suc, take_all}
use native.Mathlib.Omega.{arith}
use borrow.Author.Tests.{eq-eqb, ne_eqb, lt-leb, le-leb}
use Rattle.syntax.specs.Read.{bytes}
use Rattle.text.specs.Numbers.{hex_digit, decimal}
use Rattle.text.specs.Writing.{Wrote}
use Rattle.text.specs.Laws.Numbers.{twenty_digits}
use Rattle.text.specs.Laws.Writing.{wrote_both, wrote_nothing}
use Rattle.fields_text.specs.Escaping.{hexed, is_plain, escape, escaped}
use Rattle.fields_text.specs.Table.{tab, opening}
use Rattle.fields_text.specs.Promises.{WroteUpTo}

pub escaped-append : (a b : List ℕ) → escaped (a ++ b) ≡ escaped a ++ escaped b
unfolding escaped
escaped-append [] b = refl
escaped-append (x ∷ a) b = rw (escaped-append a b, append_assoc)

-- A byte --------------------------------------------------------------------

-- which case of the definition a byte is
module _ (b : ℕ) where
  pub escape-tab : b ≡ 9 → escape b ≡ bytes "\\t"
  unfolding escape
  escape-tab e = rw (eq-eqb b 9 e)

  module _ (no-tab : b ≡ 9 → ⊥) where
    pub escape-newline : b ≡ 10 → escape b ≡ bytes "\\n"
    unfolding escape
    escape-newline e = rw (ne_eqb b 9 no-tab, eq-eqb b 10 e)

    module _ (no-newline : b ≡ 10 → ⊥) where
      pub escape-return : b ≡ 13 → escape b ≡ bytes "\\r"
      unfolding escape
      escape-return e = rw (ne_eqb b 9 no-tab, ne_eqb b 10 no-newline, eq-eqb b 13 e)

      module _ (no_return : b ≡ 13 → ⊥) where
        pub escape-backslash : b ≡ 92 → escape b ≡ bytes "\\\\"
        unfolding escape
        escape-backslash e = rw (ne_eqb b 9 no-tab, ne_eqb b 10 no-newline, ne_eqb b 13 no_return, eq-eqb b 92 e)

        module _ (no-backslash : b ≡ 92 → ⊥) where
          pub escape-low : b < 32 → escape b ≡ hexed b
          unfolding escape is_plain
          escape-low h = rw (ne_eqb b 9 no-tab, ne_eqb b 10 no-newline, ne_eqb b 13 no_return, ne_eqb b 92 no-backslash, lt-leb 32 b h)

          pub escape-high : 32 ≤ b → 126 < b → escape b ≡ hexed b
          unfolding escape is_plain
          escape-high l h = rw (ne_eqb b 9 no-tab, ne_eqb b 10 no-newline, ne_eqb b 13 no_return, ne_eqb b 92 no-backslash, le-leb 32 b l, lt-leb b 126 h)

          pub escape-plain : 32 ≤ b → b ≤ 126 → escape b ≡ b ∷ []
          unfolding escape is_plain
          escape-plain l h = rw (ne_eqb b 9 no-tab, ne_eqb b 10 no-newline, ne_eqb b 13 no_return, ne_eqb b 92 no-backslash, le-leb 32 b l, le-leb b 126 h)

-- what was written for a byte
module _ {out : List ℕ} {at : ℕ} {new : List ℕ} {e : ℕ} where
  pub wrote_few : {text said : List ℕ} (most : ℕ) → said ≡ text → length text ≤ most → Wrote out at text new e → WroteUpTo most out at said new e
  wrote_few most is few w = record { wrote = rw is w; near = omega (arith, w.ends) }

  pub wrote_as : {text said : List ℕ} {most : ℕ} → said ≡ text → WroteUpTo most out at text new e → WroteUpTo most out at said new e
  wrote_as is w = rw is w

  pub wrote_hex : {o₁ o₂ : List ℕ} {e₁ e₂ : ℕ} (byte : ℕ) → at + 4 ≤ length out
      → Wrote out at (bytes "\\x") o₁ e₁ → Wrote o₁ e₁ (hex_digit (byte / 16) ∷ []) o₂ e₂ → Wrote o₂ e₂ (hex_digit (byte % 16) ∷ []) new e → WroteUpTo 4 out at (hexed byte) new e
  unfolding hexed
  wrote_hex byte fits u v w = record { wrote = wrote_both (omega arith) (wrote_both (omega arith) u v) w; near = omega arith }

-- A field -------------------------------------------------------------------

-- one byte more
pub escaped-more : (s : List ℕ) (i : ℕ) → i < length s → escaped (take (suc i) s) ≡ escaped (take i s) ++ escape (get_or s i 0)
unfolding escaped
escaped-more s i h = ap escaped (take-suc s i 0 h) ∙ escaped-append (take i s) (get_or s i 0 ∷ []) ∙ ap (λ (l : List ℕ). escaped (take i s) ++ l) (append-nil (escape (get_or s i 0)))

pub wrote_none : (s out : List ℕ) (at : ℕ) → Wrote out at (escaped (take 0 s)) out at
unfolding escaped
wrote_none s out at = wrote_nothing out at

pub wrote_more : {out mid new : List ℕ} {at m e : ℕ} (s : List ℕ) (i : ℕ) → i < length s → m ≤ length out
    → Wrote out at (escaped (take i s)) mid m → WroteUpTo 4 mid m (escape (get_or s i 0)) new e → Wrote out at (escaped (take (i + 1) s)) new e
wrote_more s i h fits v w = rw (add-one i, escaped-more s i h) (wrote_both fits v w.wrote)

pub wrote_all : {out new : List ℕ} {at e : ℕ} (s : List ℕ) (i : ℕ) → length s ≤ i → Wrote out at (escaped (take i s)) new e → Wrote out at (escaped s) new e
wrote_all s i h w = rw (take_all i s h) at w

-- The first two columns -----------------------------------------------------

pub wrote_opening : {out o₁ o₂ new : List ℕ} {at e₁ e₂ e : ℕ} (number : ℕ) (word : List ℕ) → number < 2 ^ 64 → at + (21 + length word) ≤ length out
    → Wrote out at (decimal number) o₁ e₁ → Wrote o₁ e₁ (tab ∷ []) o₂ e₂ → Wrote o₂ e₂ word new e → WroteUpTo (21 + length word) out at (opening (decimal number) word) new e
unfolding opening
wrote_opening number word h fits u v w =
    let d = twenty_digits number h in
    record { wrote = rw (sym (append_assoc (decimal number) (tab ∷ []) word)) (wrote_both (omega arith) (wrote_both (omega arith) u v) w); near = omega arith }
