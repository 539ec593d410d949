-- A text is shown one byte after another.
use Rattle.std.specs.Prelude.{◌≡◌, refl, List, [], ◌∷◌, ◌++◌, ℕ, suc, ◌+◌, ◌/◌, ◌%◌, ◌≤◌, ◌<◌, length, get_or, take}
use Rattle.std.proofs.Common.{ap, ◌∙◌, append_assoc, append-nil, add-one, arith, take-suc, take_all}
use borrow.Author.Tests.{eq-eqb, ne_eqb, lt-leb, le-leb}
use Rattle.syntax.specs.Read.{bytes}
use Rattle.text.specs.Writing.{Wrote}
use Rattle.text.specs.Laws.Writing.{wrote_both, wrote_nothing}
use Rattle.text.specs.Numbers.{hex_digit}
use Rattle.fields_text.specs.Escaping.{is_plain}
use Rattle.fields_text.specs.Promises.{WroteUpTo}
use Rattle.page_text.specs.Showing.{numbered, show, shown}

-- A byte --------------------------------------------------------------------

-- which case of the definition a byte is
module _ (b : ℕ) where
  pub show-less : b ≡ 60 → show b ≡ bytes "&lt;"
  unfolding show
  show-less e = rw (eq-eqb b 60 e)

  module _ (no_less : b ≡ 60 → ⊥) where
    pub show-greater : b ≡ 62 → show b ≡ bytes "&gt;"
    unfolding show
    show-greater e = rw (ne_eqb b 60 no_less, eq-eqb b 62 e)

    module _ (no_greater : b ≡ 62 → ⊥) where
      pub show-and : b ≡ 38 → show b ≡ bytes "&amp;"
      unfolding show
      show-and e = rw (ne_eqb b 60 no_less, ne_eqb b 62 no_greater, eq-eqb b 38 e)

      module _ (no_and : b ≡ 38 → ⊥) where
        pub show-double : b ≡ 34 → show b ≡ bytes "&quot;"
        unfolding show
        show-double e = rw (ne_eqb b 60 no_less, ne_eqb b 62 no_greater, ne_eqb b 38 no_and, eq-eqb b 34 e)

        module _ (no_double : b ≡ 34 → ⊥) where
          pub show-single : b ≡ 39 → show b ≡ bytes "&#39;"
          unfolding show
          show-single e = rw (ne_eqb b 60 no_less, ne_eqb b 62 no_greater, ne_eqb b 38 no_and, ne_eqb b 34 no_double, eq-eqb b 39 e)

          module _ (no_single : b ≡ 39 → ⊥) where
            pub show-low : b < 32 → show b ≡ numbered b
            unfolding show is_plain
            show-low h = rw (ne_eqb b 60 no_less, ne_eqb b 62 no_greater, ne_eqb b 38 no_and, ne_eqb b 34 no_double, ne_eqb b 39 no_single, lt-leb 32 b h)

            pub show-high : 32 ≤ b → 126 < b → show b ≡ numbered b
            unfolding show is_plain
            show-high l h = rw (ne_eqb b 60 no_less, ne_eqb b 62 no_greater, ne_eqb b 38 no_and, ne_eqb b 34 no_double, ne_eqb b 39 no_single, le-leb 32 b l, lt-leb b 126 h)

            pub show-plain : 32 ≤ b → b ≤ 126 → show b ≡ b ∷ []
            unfolding show is_plain
            show-plain l h = rw (ne_eqb b 60 no_less, ne_eqb b 62 no_greater, ne_eqb b 38 no_and, ne_eqb b 34 no_double, ne_eqb b 39 no_single, le-leb 32 b l, le-leb b 126 h)

-- what was written for a byte by its number
pub wrote_numbered : {out o₁ o₂ o₃ new : List ℕ} {at e₁ e₂ e₃ e : ℕ} (byte : ℕ) → at + 16 ≤ length out
    → Wrote out at (bytes "&#8249;") o₁ e₁ → Wrote o₁ e₁ (hex_digit (byte / 16) ∷ []) o₂ e₂ → Wrote o₂ e₂ (hex_digit (byte % 16) ∷ []) o₃ e₃ → Wrote o₃ e₃ (bytes "&#8250;") new e
    → WroteUpTo 16 out at (numbered byte) new e
unfolding numbered
wrote_numbered byte fits u v w x = record { wrote = wrote_both (omega arith) (wrote_both (omega arith) (wrote_both (omega arith) u v) w) x; near = omega arith }

-- A text --------------------------------------------------------------------

shown-append : (a b : List ℕ) → shown (a ++ b) ≡ shown a ++ shown b
unfolding shown
shown-append [] b = refl
shown-append (x ∷ a) b = rw (shown-append a b, append_assoc)

-- one byte more
shown-more : (s : List ℕ) (i : ℕ) → i < length s → shown (take (suc i) s) ≡ shown (take i s) ++ show (get_or s i 0)
unfolding shown
shown-more s i h = ap shown (take-suc s i 0 h) ∙ shown-append (take i s) (get_or s i 0 ∷ []) ∙ ap (λ (l : List ℕ). shown (take i s) ++ l) (append-nil (show (get_or s i 0)))

pub wrote_none : (s out : List ℕ) (at : ℕ) → Wrote out at (shown (take 0 s)) out at
unfolding shown
wrote_none s out at = wrote_nothing out at

pub wrote_more : {out mid new : List ℕ} {at m e : ℕ} (s : List ℕ) (i : ℕ) → i < length s → m ≤ length out
    → Wrote out at (shown (take i s)) mid m → WroteUpTo 16 mid m (show (get_or s i 0)) new e → Wrote out at (shown (take (i + 1) s)) new e
wrote_more s i h fits v w = rw (add-one i, shown-more s i h) (wrote_both fits v w.wrote)

pub wrote_all : {out new : List ℕ} {at e : ℕ} (s : List ℕ) (i : ℕ) → length s ≤ i → Wrote out at (shown (take i s)) new e → Wrote out at (shown s) new e
wrote_all s i h w = rw (take_all i s h) at w
