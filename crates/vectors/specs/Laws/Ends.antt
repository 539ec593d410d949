-- Laws of the first of a byte, where a text is cut. Assumes nothing.
use Rattle.std.specs.Prelude.{◌≡◌, refl, Bool, true, false, List, [], ◌∷◌, ℕ, ◌+◌, ◌-◌, ◌≤◌, ◌<◌, length, take, drop, eqb, Option, if◌then◌else◌}
use Rattle.std.specs.List.{AllWithin, HoldsAt}
use Rattle.std.specs.Option.{MatchOption, unwrap_or}
use Rattle.std.proofs.Common.{sym, ap, ◌∙◌, arith, length-drop, take_all, drop_of_length-le}
use Rattle.std.proofs.lemmas.Iterator.{index_from_first}
use borrow.Author.Tests.{eq-eqb, ne_eqb}
use Rattle.vectors.specs.Text.{up_to}

module _ (x : ℕ) where
  hit : (b : ℕ) (bs : List ℕ) → b ≡ x → length (up_to x (b ∷ bs)) ≡ 0
  unfolding up_to
  hit b bs e = rw (eq-eqb b x e)

  miss : (b : ℕ) (bs : List ℕ) → (b ≡ x → ⊥) → length (up_to x (b ∷ bs)) ≡ length (up_to x bs) + 1
  unfolding up_to
  miss b bs e = rw (ne_eqb b x e) (omega arith)

  none : length (up_to x []) ≡ 0
  unfolding up_to
  none = refl

  -- what a search for the byte answers
  pub end-found : (s : List ℕ) (r : Option ℕ) → MatchOption r (AllWithin (λ b. b ≡ x → ⊥) s 0 (length s)) (λ i. (i < length s) × HoldsAt (λ b. b ≡ x) s i × AllWithin (λ b. b ≡ x → ⊥) s 0 i)
      → length (up_to x s) ≡ unwrap_or r (length s)
  end-found s r m = index_from_first (λ t. length (up_to x t)) (λ b. b ≡ x) (λ b. b ≡ x → ⊥) none hit miss s r m

  pub up-taken : (s : List ℕ) → up_to x s ≡ take (length (up_to x s)) s
  unfolding up_to
  up-taken [] = refl
  up-taken (b ∷ bs) = go (up-taken bs) (eqb b x)
    where
      go : up_to x bs ≡ take (length (up_to x bs)) bs → (t : Bool) → (if t then [] else b ∷ up_to x bs) ≡ take (length (if t then [] else b ∷ up_to x bs)) (b ∷ bs)
      go e true = refl
      go e false = ap (λ (l : List ℕ). b ∷ l) e

  -- where it stands, and where it does not
  pub cut-at : (s : List ℕ) (i : ℕ) → length (up_to x s) ≡ i → (take i s ≡ up_to x s) × (take (length s - (i + 1)) (drop (i + 1) s) ≡ drop (length (up_to x s) + 1) s)
  cut-at s i e =
      let k : length (drop (i + 1) s) ≤ length s - (i + 1) = simp length-drop (omega arith) in
      (rw (← e) (sym (up-taken s)), rw (take_all (length s - (i + 1)) (drop (i + 1) s) k, e))

  pub cut-none : (s : List ℕ) → length (up_to x s) ≡ length s → (s ≡ up_to x s) × (◌≡◌ {A = List ℕ} [] (drop (length (up_to x s) + 1) s))
  cut-none s e =
      let k : length s ≤ length (up_to x s) + 1 = omega arith in
      (sym (take_all (length (up_to x s)) s (omega arith)) ∙ sym (up-taken s), sym (drop_of_length-le s k))
