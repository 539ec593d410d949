-- What is in a list, by induction on it.
use Rattle.std.specs.Prelude.{◌≡◌, refl, List, [], ◌∷◌, ◌++◌, ◌⊎◌, ◌≤◌, length}
use Rattle.std.proofs.Common.{ap, inl, inr, arith, length-append}
use Rattle.semantics.specs.States.{Row}
use Rattle.semantics.specs.Demands.{In, Distinct}

module _ {A : Type 0} where
  pub in_left : (x : A) (a b : List A) → In x a → In x (a ++ b)
  in_left x [] b h = absurd h
  in_left x (y ∷ a) b (inl e) = inl e
  in_left x (y ∷ a) b (inr h) = inr (in_left x a b h)

  pub in_right : (x : A) (a b : List A) → In x b → In x (a ++ b)
  in_right x [] b h = h
  in_right x (y ∷ a) b h = inr (in_right x a b h)

  pub in-or : (x : A) (a b : List A) → In x (a ++ b) → In x a ⊎ In x b
  in-or x [] b h = inr h
  in-or x (y ∷ a) b (inl e) = inl (inl e)
  in-or x (y ∷ a) b (inr h) = elim (in-or x a b h) [ inl l ↦ inl (inr l) | inr r ↦ inr r ]

  pub in_split : (x : A) (l : List A) → In x l → (p : List A) × (q : List A) × (l ≡ p ++ x ∷ q)
  in_split x [] h = absurd h
  in_split x (y ∷ l) (inl e) = ([], l, ap (λ (z : A). z ∷ l) e)
  in_split x (y ∷ l) (inr h) = let z = in_split x l h in (y ∷ z.0, z.1, ap (λ (k : List A). y ∷ k) z.2)

  -- x stands in a or in b
  pub append-split : (a b p q : List A) (x : A) → a ++ b ≡ p ++ x ∷ q → ((o : List A) × (a ≡ p ++ x ∷ o)) ⊎ ((o : List A) × (p ≡ a ++ o) × (b ≡ o ++ x ∷ q))
  append-split [] b p q x e = inr (p, refl, e)
  append-split (y ∷ a) b [] q x e = inl (a, ap (λ (z : A). z ∷ a) (cc))
  append-split (y ∷ a) b (z ∷ p) q x e = elim (append-split a b p q x (cc)) [
    | inl o ↦ inl (o.0, cc o.1)
    | inr o ↦ inr (o.0, cc o.1, o.2)
  ]

-- different elements that are all in another list are no more than it has
pub distinct-fit : (l k : List Row) → Distinct l → ((x : Row) → In x l → In x k) → length l ≤ length k
distinct-fit [] k d f = omega arith
distinct-fit (x ∷ l) k d f =
    let z = in_split x k (f x (inl refl)) in
    let h : length l ≤ length (z.0 ++ z.1) = distinct-fit l (z.0 ++ z.1) d.1 (λ y i. elim (in-or y z.0 (x ∷ z.1) (rw z.2 at (f y (inr i)))) [
      | inl a ↦ in_left y z.0 z.1 a
      | inr b ↦ elim b [ inl e ↦ absurd (d.0 (rw e i)) | inr c ↦ in_right y z.0 z.1 c ]
    ]) in
    rw z.2 (omega (arith, length-append z.0 (x ∷ z.1), length-append z.0 z.1))
