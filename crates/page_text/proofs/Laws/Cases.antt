-- What a byte is shown as, case by case.
use Rattle.std.specs.Prelude.{◌≡◌, refl, [], ◌∷◌, Bool, true, false, ◌⊎◌, ℕ, ◌≤◌, ◌<◌, leb, eqb}
use Rattle.std.proofs.Common.{inl, inr, eqb-true, leb-true, leb-false}
use Rattle.std.proofs.lemmas.Bool.{eqb-false}
use Rattle.syntax.specs.Read.{bytes}
use Rattle.page_text.specs.Showing.{numbered, show}
use Rattle.page_text.proofs.Laws.Writing.{show-less, show-greater, show-and, show-double, show-single, show-low, show-high, show-plain}

-- a byte that is shown as it is
pub record Plain (b : ℕ) : Type 0 where
  pub no_less : b ≡ 60 → ⊥
  pub no_greater : b ≡ 62 → ⊥
  pub no_and : b ≡ 38 → ⊥
  pub no_double : b ≡ 34 → ⊥
  pub no_single : b ≡ 39 → ⊥
  pub low : 32 ≤ b
  pub high : b ≤ 126

pub data Case (b : ℕ) : Type 0 where
  as_less : b ≡ 60 → show b ≡ bytes "&lt;" → Case b
  as_greater : b ≡ 62 → show b ≡ bytes "&gt;" → Case b
  as_and : b ≡ 38 → show b ≡ bytes "&amp;" → Case b
  as_double : b ≡ 34 → show b ≡ bytes "&quot;" → Case b
  as_single : b ≡ 39 → show b ≡ bytes "&#39;" → Case b
  as_itself : Plain b → show b ≡ b ∷ [] → Case b
  as_number : show b ≡ numbered b → Case b

same_or : (a b : ℕ) → (a ≡ b) ⊎ (a ≡ b → ⊥)
same_or a b = go (eqb a b) refl
  where
    go : (t : Bool) → eqb a b ≡ t → (a ≡ b) ⊎ (a ≡ b → ⊥)
    go true e = inl (eqb-true a b e)
    go false e = inr (eqb-false a b e)

most-or : (a b : ℕ) → (a ≤ b) ⊎ (b < a)
most-or a b = go (leb a b) refl
  where
    go : (t : Bool) → leb a b ≡ t → (a ≤ b) ⊎ (b < a)
    go true e = inl (leb-true a b e)
    go false e = inr (leb-false a b e)

pub case-of : (b : ℕ) → Case b
case-of b = less (same_or b 60)
  where
    plains : (b ≡ 60 → ⊥) → (b ≡ 62 → ⊥) → (b ≡ 38 → ⊥) → (b ≡ 34 → ⊥) → (b ≡ 39 → ⊥) → (32 ≤ b) ⊎ (b < 32) → (b ≤ 126) ⊎ (126 < b) → Case b
    plains s t u v w (inl l) (inl h) = as_itself (record { no_less = s; no_greater = t; no_and = u; no_double = v; no_single = w; low = l; high = h }) (show-plain b s t u v w l h)
    plains s t u v w (inl l) (inr h) = as_number (show-high b s t u v w l h)
    plains s t u v w (inr l) h = as_number (show-low b s t u v w l)

    singles : (b ≡ 60 → ⊥) → (b ≡ 62 → ⊥) → (b ≡ 38 → ⊥) → (b ≡ 34 → ⊥) → (b ≡ 39) ⊎ (b ≡ 39 → ⊥) → Case b
    singles s t u v (inl e) = as_single e (show-single b s t u v e)
    singles s t u v (inr w) = plains s t u v w (most-or 32 b) (most-or b 126)

    doubles : (b ≡ 60 → ⊥) → (b ≡ 62 → ⊥) → (b ≡ 38 → ⊥) → (b ≡ 34) ⊎ (b ≡ 34 → ⊥) → Case b
    doubles s t u (inl e) = as_double e (show-double b s t u e)
    doubles s t u (inr v) = singles s t u v (same_or b 39)

    ands : (b ≡ 60 → ⊥) → (b ≡ 62 → ⊥) → (b ≡ 38) ⊎ (b ≡ 38 → ⊥) → Case b
    ands s t (inl e) = as_and e (show-and b s t e)
    ands s t (inr u) = doubles s t u (same_or b 34)

    greater : (b ≡ 60 → ⊥) → (b ≡ 62) ⊎ (b ≡ 62 → ⊥) → Case b
    greater s (inl e) = as_greater e (show-greater b s e)
    greater s (inr t) = ands s t (same_or b 38)

    less : (b ≡ 60) ⊎ (b ≡ 60 → ⊥) → Case b
    less (inl e) = as_less e (show-less b e)
    less (inr s) = greater s (same_or b 62)
