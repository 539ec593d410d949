-- What is shown of a rule: one that can be printed stands there as it is, and the signs under any other stand under what they mark.
use Rattle.std.specs.Prelude.{◌≡◌, refl, Bool, true, false, not, ◌||◌, List, [], ◌∷◌, ◌++◌, ℕ, length}
use Rattle.std.proofs.Common.{ap, arith, length-append}
use Rattle.semantics.proofs.Laws.Cases.{clash}
use Rattle.report.specs.Text.{is_printed, is_odd}
use Rattle.fields_text.specs.Escaping.{hexed}
use Rattle.card_text.specs.Text.{one, each}
use Rattle.card_text.specs.Laws.Writing.{under-printed, as_itself, under-odd, as_hex}

pub as-it-is : (rule : List ℕ) → is_odd rule ≡ false → each false rule ≡ rule
unfolding is_odd each
as-it-is [] e = refl
as-it-is (b ∷ s) e = go (as-it-is s) (is_printed b) refl e
  where
    go : (is_odd s ≡ false → each false s ≡ s) → (t : Bool) → is_printed b ≡ t → (not t || is_odd s) ≡ false → one false b ++ each false s ≡ b ∷ s
    go rest true p h = rw (as_itself b false p refl) (ap (λ (l : List ℕ). b ∷ l) (rest h))
    go rest false p h = absurd (clash (cc))

one-long : (b : ℕ) → length (one true b) ≡ length (one false b)
unfolding hexed
one-long b = go (is_printed b) refl
  where
    go : (t : Bool) → is_printed b ≡ t → length (one true b) ≡ length (one false b)
    go true p = rw (under-printed b true p refl, as_itself b false p refl)
    go false p = rw (under-odd b true p refl, as_hex b false p refl)

pub signs-under : (rule : List ℕ) → length (each true rule) ≡ length (each false rule)
unfolding each
signs-under [] = refl
signs-under (b ∷ s) = omega (arith, length-append (one true b) (each true s), length-append (one false b) (each false s), one-long b, signs-under s)
