-- Places in the walks, one start after another: what has been met when the walk from a start has taken so many steps, and that an end
-- met by then stands at exactly one earlier place. Inductions over the starts, and over the steps of one walk.
use Rattle.std.specs.Prelude.{◌≡◌, ◌⊎◌, length, take, drop}
use Rattle.std.proofs.Math.Path.{refl, ap, subst}
use Rattle.std.proofs.Common.{sym, ◌∙◌, take-append-drop, length-append, take-take}
use mathlib.Core.List.{List, [], ◌∷◌, ◌++◌, map, append_assoc, append-nil}
use Rattle.std.proofs.Math.Logic.{inl, inr}
use Prim.Native.Nat.{ℕ, zero, suc, ◌+◌, ◌≤◌, ◌<◌}
use native.Mathlib.Omega.{arith}
use Rattle.std.proofs.Math.ListN.{length-take, length-map}
use Rattle.std.proofs.Math.Seq.{take-length}
use Rattle.semantics.specs.States.{State}
use Rattle.semantics.specs.Walk.{step, miss, end, Trace, Reaches}
use Rattle.semantics.specs.Runs.{Moment, ends, moment}
use Rattle.semantics.specs.Demands.{Earlier, steps_before}
use Rattle.semantics.proofs.Laws.Cases.{clash, le-or, three}
use Rattle.semantics.proofs.Laws.Members.{append-split}

-- a place is a start and a number of steps of its walk
pub earlier-trans : (a i b j c k : ℕ) → Earlier a i b j → Earlier b j c k → Earlier a i c k
earlier-trans a i b j c k (inl x) (inl y) = inl (omega arith)
earlier-trans a i b j c k (inl x) (inr y) = inl (omega arith)
earlier-trans a i b j c k (inr x) (inl y) = inl (omega arith)
earlier-trans a i b j c k (inr x) (inr y) = inr (omega arith, omega arith)

pub earlier-or : (n j m k : ℕ) → Earlier n j m k ⊎ (((n ≡ m) × (j ≡ k)) ⊎ Earlier m k n j)
earlier-or n j m k = elim (three n m) [
  | inl l ↦ inl (inl l)
  | inr x ↦ elim x [
    | inl e ↦ elim (three j k) [
      | inl l ↦ inl (inr (e, l))
      | inr y ↦ elim y [ inl f ↦ inr (inl (e, f)) | inr l ↦ inr (inr (inr (sym e, l))) ]
    ]
    | inr l ↦ inr (inr (inl l))
  ]
]

module _ (w : ℕ → Trace) where
  -- what the walks before start n meet
  unfoldable pub walked : ℕ → List Moment
  walked zero = []
  walked (suc n) = walked n ++ map (moment n) (w n)

  -- and j steps of that from n
  unfoldable pub upto : ℕ → ℕ → List Moment
  upto n j = walked n ++ map (moment n) (take j (w n))

  pub walked-length : (n : ℕ) → length (walked n) ≡ steps_before w n
  unfolding walked steps_before
  walked-length zero = refl
  walked-length (suc n) = simp (length-append, length-map, walked-length n)

  pub upto-length : (n j : ℕ) → j ≤ length (w n) → length (upto n j) ≡ steps_before w n + j
  unfolding upto
  upto-length n j h = simp (length-append, length-map, length-take, walked-length n) (omega arith)

pub reaches-below : (es : Trace) (k : ℕ) (t : State) → Reaches es k t → k < length es
reaches-below [] k t h = absurd h
reaches-below (e ∷ es) zero t h = omega arith
reaches-below (e ∷ es) (suc k) t h = omega (arith, reaches-below es k t h)

-- the first j moments hold that of the end reached after k < j steps
end-split : (n : ℕ) (es : Trace) (j k : ℕ) (t : State) → Reaches es k t → k < j → (q : List Moment) × (map (moment n) (take j es) ≡ map (moment n) (take k es) ++ ends n t ∷ q)
unfolding moment
end-split n [] j k t h l = absurd h
end-split n (e ∷ es) zero k t h l = absurd (omega arith)
end-split n (e ∷ es) (suc j) zero t h l = (map (moment n) (take j es), rw h)
end-split n (e ∷ es) (suc j) (suc k) t h l = let z = end-split n es j k t h (omega arith) in (z.0, rw z.1)

-- where an end stands among the moments of one walk
end-place : (m : ℕ) (es : Trace) (p q : List Moment) (n : ℕ) (t : State) → map (moment m) es ≡ p ++ ends n t ∷ q → (k : ℕ) × (m ≡ n) × (p ≡ map (moment m) (take k es)) × Reaches es k t
unfolding moment
end-place m [] [] q n t e = absurd (clash (cc))
end-place m [] (x ∷ p) q n t e = absurd (clash (cc))
end-place m (step ∷ es) [] q n t e = absurd (clash (cc))
end-place m (miss a b ∷ es) [] q n t e = absurd (clash (cc))
end-place m (end u ∷ es) [] q n t e = (0, (cc), refl, ap end (cc))
end-place m (v ∷ es) (x ∷ p) q n t e = let z = end-place m es p q n t (cc) in (suc z.0, z.1, cc z.2, z.3)

reaches-take : (j : ℕ) (es : Trace) (k : ℕ) (t : State) → Reaches (take j es) k t → Reaches es k t × (k < j)
reaches-take zero es k t h = absurd h
reaches-take (suc j) [] k t h = absurd h
reaches-take (suc j) (e ∷ es) zero t h = (h, omega arith)
reaches-take (suc j) (e ∷ es) (suc k) t h = let z = reaches-take j es k t h in (z.0, omega (arith, z.1))

pub map-append : {A B : Type 0} (f : A → B) (a b : List A) → map f (a ++ b) ≡ map f a ++ map f b
map-append f [] b = refl
map-append f (x ∷ a) b = rw (map-append f a b)

module _ (w : ℕ → Trace) where
  -- where an end stands: the steps before it, and what was met by then
  pub record Place (n : ℕ) (t : State) (p : List Moment) : Type 0 where
    pub k : ℕ
    pub past : p ≡ upto w n k
    pub reaches : Reaches (w n) k t

  walked-place : (m : ℕ) (p q : List Moment) (n : ℕ) (t : State) → walked w m ≡ p ++ ends n t ∷ q → (n < m) × Place n t p
  unfolding walked upto
  walked-place zero [] q n t e = absurd (clash (cc))
  walked-place zero (x ∷ p) q n t e = absurd (clash (cc))
  walked-place (suc m) p q n t e = elim (append-split (walked w m) (map (moment m) (w m)) p q (ends n t) e) [
    | inl o ↦ let z = walked-place m p o.0 n t o.1 in (omega (arith, z.0), z.1)
    | inr o ↦
        let z = end-place m (w m) o.0 q n t o.2 in
        let y : Place m t p = record { k = z.0; past = o.1 ∙ ap (λ (l : List Moment). walked w m ++ l) z.2; reaches = z.3 } in
        (omega (arith, z.1), rw z.1 at y)
  ]

  pub upto-place : (m j : ℕ) (p q : List Moment) (n : ℕ) (t : State) → upto w m j ≡ p ++ ends n t ∷ q → (x : Place n t p) × Earlier n x.k m j
  unfolding upto
  upto-place m j p q n t e = elim (append-split (walked w m) (map (moment m) (take j (w m))) p q (ends n t) e) [
    | inl o ↦ let z = walked-place m p o.0 n t o.1 in (z.1, inl z.0)
    | inr o ↦
        let z = end-place m (take j (w m)) o.0 q n t o.2 in
        let r = reaches-take j (w m) z.0 t z.3 in
        let past : p ≡ upto w m z.0 = o.1 ∙ ap (λ (l : List Moment). walked w m ++ l) (z.2 ∙ ap (λ (l : Trace). map (moment m) l) (take-take z.0 j (w m) (omega (arith, r.1)))) in
        let y : (x : Place m t p) × Earlier m x.k m j = (record { k = z.0; past = past; reaches = r.0 }, inr (refl, r.1)) in
        subst (λ (i : ℕ). (x : Place i t p) × Earlier i x.k m j) z.1 y
  ]

  -- what the walks have met they have met at each later place
  walked-grows : (n m : ℕ) → n ≤ m → (q : List Moment) × (walked w m ≡ walked w n ++ q)
  unfolding walked
  walked-grows n zero l = let e : n ≡ 0 = omega arith in ([], rw e)
  walked-grows n (suc m) l = elim (le-or n m) [
    | inl h ↦ let z = walked-grows n m h in (z.0 ++ map (moment m) (w m), rw z.1 (append_assoc (walked w n) z.0 (map (moment m) (w m))))
    | inr h ↦ let e : n ≡ suc m = omega arith in ([], rw e (sym (append-nil (walked w (suc m)))))
  ]

  pub upto-grows : (n k m j : ℕ) → n < m → (q : List Moment) × (upto w m j ≡ upto w n k ++ q)
  unfolding upto walked
  upto-grows n k m j h =
      let a = walked-grows (suc n) m h in
      let c : map (moment n) (w n) ≡ map (moment n) (take k (w n)) ++ map (moment n) (drop k (w n)) = rw (← (map-append (moment n) (take k (w n)) (drop k (w n))), take-append-drop) in
      ((map (moment n) (drop k (w n)) ++ a.0) ++ map (moment m) (take j (w m)), rw (a.1, c) (simp append_assoc))

  pub reached-split : (n k m j : ℕ) (t : State) → Reaches (w n) k t → Earlier n k m j → (q : List Moment) × (upto w m j ≡ upto w n k ++ ends n t ∷ q)
  unfolding upto walked
  reached-split n k m j t r (inl h) =
      let a = walked-grows (suc n) m h in
      let b = end-split n (w n) (length (w n)) k t r (reaches-below (w n) k t r) in
      let c : map (moment n) (w n) ≡ map (moment n) (take k (w n)) ++ ends n t ∷ b.0 = rw take-length at b.1 in
      ((b.0 ++ a.0) ++ map (moment m) (take j (w m)), rw (a.1, c) (simp append_assoc))
  reached-split n k m j t r (inr h) = let b = end-split n (w n) j k t r h.1 in (b.0, rw (← h.0) (rw b.1 (sym (append_assoc (walked w n) _ _))))
