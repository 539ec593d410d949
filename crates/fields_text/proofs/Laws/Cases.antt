-- What a byte is escaped to, case by case.
use Rattle.std.specs.Prelude.{◌≡◌, refl, [], ◌∷◌, Bool, true, false, ◌⊎◌, ℕ, ◌≤◌, ◌<◌, leb, eqb}
use Rattle.std.proofs.Common.{inl, inr, eqb-true, leb-true, leb-false}
use Rattle.std.proofs.lemmas.Bool.{eqb-false}
use Rattle.syntax.specs.Read.{bytes}
use Rattle.fields_text.specs.Escaping.{hexed, escape}
use Rattle.fields_text.proofs.Laws.Writing.{escape-tab, escape-newline, escape-return, escape-backslash, escape-low, escape-high, escape-plain}

pub data Case (b : ℕ) : Type 0 where
  as_tab : b ≡ 9 → escape b ≡ bytes "\\t" → Case b
  as_newline : b ≡ 10 → escape b ≡ bytes "\\n" → Case b
  as_return : b ≡ 13 → escape b ≡ bytes "\\r" → Case b
  as_backslash : b ≡ 92 → escape b ≡ bytes "\\\\" → Case b
  as_itself : 32 ≤ b → (b ≡ 92 → ⊥) → escape b ≡ b ∷ [] → Case b
  as_hex : escape b ≡ hexed b → Case b

same_or : (a b : ℕ) → (a ≡ b) ⊎ (a ≡ b → ⊥)
same_or a b = go (eqb a b) refl
  where
    go : (t : Bool) → eqb a b ≡ t → (a ≡ b) ⊎ (a ≡ b → ⊥)
    go true e = inl (eqb-true a b e)
    go false e = inr (eqb-false a b e)

most-or : (a b : ℕ) → (a ≤ b) ⊎ (b < a)
most-or a b = go (leb a b) refl
  where
    go : (t : Bool) → leb a b ≡ t → (a ≤ b) ⊎ (b < a)
    go true e = inl (leb-true a b e)
    go false e = inr (leb-false a b e)

pub case-of : (b : ℕ) → Case b
case-of b = tabs (same_or b 9)
  where
    plains : (b ≡ 9 → ⊥) → (b ≡ 10 → ⊥) → (b ≡ 13 → ⊥) → (b ≡ 92 → ⊥) → (32 ≤ b) ⊎ (b < 32) → (b ≤ 126) ⊎ (126 < b) → Case b
    plains s t u v (inl l) (inl h) = as_itself l v (escape-plain b s t u v l h)
    plains s t u v (inl l) (inr h) = as_hex (escape-high b s t u v l h)
    plains s t u v (inr l) h = as_hex (escape-low b s t u v l)

    backslashes : (b ≡ 9 → ⊥) → (b ≡ 10 → ⊥) → (b ≡ 13 → ⊥) → (b ≡ 92) ⊎ (b ≡ 92 → ⊥) → Case b
    backslashes s t u (inl e) = as_backslash e (escape-backslash b s t u e)
    backslashes s t u (inr v) = plains s t u v (most-or 32 b) (most-or b 126)

    returns : (b ≡ 9 → ⊥) → (b ≡ 10 → ⊥) → (b ≡ 13) ⊎ (b ≡ 13 → ⊥) → Case b
    returns s t (inl e) = as_return e (escape-return b s t e)
    returns s t (inr u) = backslashes s t u (same_or b 92)

    newlines : (b ≡ 9 → ⊥) → (b ≡ 10) ⊎ (b ≡ 10 → ⊥) → Case b
    newlines s (inl e) = as_newline e (escape-newline b s e)
    newlines s (inr t) = returns s t (same_or b 13)

    tabs : (b ≡ 9) ⊎ (b ≡ 9 → ⊥) → Case b
    tabs (inl e) = as_tab e (escape-tab b e)
    tabs (inr s) = newlines s (same_or b 10)
