-- The readings that the walks have reached at a place: each once, in the order of demand 3, and the first of that order. What `fresh`
-- keeps of an end is its reading's first derivation, and Theorem orders the ends of one walk.
use Rattle.std.specs.Prelude.{◌≡◌, ◌⊎◌, ◌↔◌, Bool, ℕ, suc, ◌<◌, length}
use Rattle.std.proofs.Math.Path.{refl, ap, sym}
use Rattle.std.proofs.Common.{◌∙◌, subst}
use mathlib.Core.List.{List, [], ◌∷◌, ◌++◌, append_assoc, append-nil}
use Rattle.std.proofs.Math.Logic.{inl, inr}
use Rattle.std.proofs.Math.Bool.{true, false}
use native.Mathlib.Omega.{arith}
use Rattle.syntax.specs.Tree.{Rule}
use Rattle.semantics.specs.States.{Before, State, Row, row}
use Rattle.semantics.specs.Derivations.{Derivation}
use Rattle.semantics.specs.Walk.{trace, Reaches}
use Rattle.semantics.specs.Runs.{Moment, plain, ends}
use Rattle.semantics.specs.Answers.{known, unless, fresh}
use Rattle.semantics.specs.Demands.{In, Distinct, Earlier, Start, Reading, FirstOf, Precedes, InOrder, ReachedBefore}
use Rattle.semantics.proofs.Laws.Traces.{not-both}
use Rattle.semantics.proofs.Laws.Members.{in_right, in-or}
use Rattle.semantics.proofs.Laws.Places.{upto, Place, upto-place, upto-grows, reached-split}
use Rattle.semantics.proofs.Laws.Newness.{new-not, rows_of, rows_of-append, in-rows_of, rows_of-in, seen_after, seen_after-append, fresh-append, in-seen_after, fresh_in, met-fresh}
use Rattle.semantics.proofs.Laws.Matches.{derives-reaches, reaches-derives, reaches-order, from-here}

module _ (sub : List ℕ) (r : Rule) where
  -- the readings that the walks have reached, each once
  unfoldable pub readings : ℕ → ℕ → List Row
  readings n k = rows_of (fresh [] (upto (trace sub r) n k))

  pub reached-met : (n k : ℕ) (x : Row) → ReachedBefore sub r n k x → In x (rows_of (upto (trace sub r) n k))
  reached-met n k x b =
      let z = reached-split (trace sub r) b.m b.k n k b.t b.reaches b.earlier in
      let i : In (ends b.m b.t) (upto (trace sub r) n k) = rw z.1 (in_right (ends b.m b.t) (upto (trace sub r) b.m b.k) (ends b.m b.t ∷ z.0) (inl refl)) in
      rw b.is (in-rows_of b.m b.t (upto (trace sub r) n k) i)

  -- they are those that were reached before
  pub readings-are : (n k : ℕ) (x : Row) → In x (readings n k) ↔ ReachedBefore sub r n k x
  unfolding readings known
  readings-are n k x = (
    λ h.
        let y = rows_of-in x (fresh [] (upto (trace sub r) n k)) h in
        let z = fresh_in [] (upto (trace sub r) n k) y.0 y.1 y.2 in
        let p = upto-place (trace sub r) n k z.0 z.1 y.0 y.1 z.2 in
        record { m = y.0; k = p.0.k; t = y.1; earlier = p.1; reaches = p.0.reaches; is = y.3 },
    λ b. met-fresh x [] (upto (trace sub r) n k) refl (reached-met n k x b),
  )

  -- a place that a run can end at: in the walk from a start, or behind the last walk
  abbrev pub InRuns : ℕ → ℕ → Type 0
  InRuns n k = Start sub n ⊎ ((n ≡ suc (length sub)) × (k ≡ 0))

  in-runs-start : (n k m j : ℕ) → InRuns n k → Earlier m j n k → Start sub m
  in-runs-start n k m j (inl s) (inl l) = omega arith
  in-runs-start n k m j (inl s) (inr e) = omega arith
  in-runs-start n k m j (inr f) (inl l) = omega arith
  in-runs-start n k m j (inr f) (inr e) = absurd (omega arith)

  -- an end whose reading was not seen before is its first derivation
  first_derived : (n : ℕ) (t : State) (p : List Moment) (h : Place (trace sub r) n t p) → Start sub n → known (row n t) (seen_after [] p) ≡ false → FirstOf sub r (row n t) n t
  first_derived n t p h s new = record {
    start = s;
    derives = reaches-derives sub r n h.k t s h.reaches;
    is = refl;
    first = λ u d e. from-here sub r n h.k t u s h.reaches d (λ j l g.
        let z = reached-split (trace sub r) n j n h.k u g (inr (refl, l)) in
        let i : In (ends n u) p = rw (h.past, z.1) (in_right (ends n u) (upto (trace sub r) n j) (ends n u ∷ z.0) (inl refl)) in
        new-not (row n t) (seen_after [] p) new (rw e (in-seen_after (row n u) [] p (inr (in-rows_of n u p i)))));
  }

  -- two such ends, one after the other
  module _ (n k : ℕ) (in-runs : InRuns n k) where
    precedes : (p q o : List Moment) (a b : ℕ) (t u : State) → upto (trace sub r) n k ≡ (p ++ ends a t ∷ q) ++ ends b u ∷ o → known (row a t) (seen_after [] p) ≡ false → known (row b u) (seen_after [] (p ++ ends a t ∷ q)) ≡ false → Precedes sub r (row a t) (row b u)
    precedes p q o a b t u e f g =
        let y = upto-place (trace sub r) n k (p ++ ends a t ∷ q) o b u e in
        let s = in-runs-start n k b y.0.k in-runs y.1 in
        let x = upto-place (trace sub r) b y.0.k p q a t (sym y.0.past) in
        let v = in-runs-start b y.0.k a x.0.k (inl s) x.1 in
        record {
          n = a;
          t = t;
          m = b;
          u = u;
          left = first_derived a t p x.0 v f;
          right = first_derived b u (p ++ ends a t ∷ q) y.0 s g;
          sooner = elim x.1 [
            | inl l ↦ inl l
            | inr l ↦ inr (l.0, reaches-order sub r a x.0.k y.0.k t u v x.0.reaches (subst (λ (i : ℕ). Reaches (trace sub r i) y.0.k u) (sym l.0) y.0.reaches) l.1)
          ];
        }

    order-unless : (known-a : Bool) (a : ℕ) (t : State) (fs : List Moment) → (known-a ≡ false → (y : Row) → In y (rows_of fs) → Precedes sub r (row a t) y) → InOrder sub r (rows_of fs) → InOrder sub r (rows_of (unless known-a (ends a t) ∷ fs))
    unfolding rows_of unless
    order-unless true a t fs f h = h
    order-unless false a t fs f h = (f refl, h)

    in-order-from : (p ms : List Moment) → upto (trace sub r) n k ≡ p ++ ms → InOrder sub r (rows_of (fresh (seen_after [] p) ms))
    unfolding fresh rows_of seen_after
    in-order-from p [] e = tt
    in-order-from p (plain ∷ ms) e = rw (seen_after-append [] p (plain ∷ [])) at (in-order-from (p ++ plain ∷ []) ms (e ∙ sym (append_assoc p (plain ∷ []) ms)))
    in-order-from p (ends a t ∷ ms) e = order-unless (known (row a t) (seen_after [] p)) a t (fresh (row a t ∷ seen_after [] p) ms) (λ f y i.
        let x = rows_of-in y (fresh (row a t ∷ seen_after [] p) ms) i in
        let z = fresh_in (row a t ∷ seen_after [] p) ms x.0 x.1 x.2 in
        let g : known (row x.0 x.1) (seen_after [] (p ++ ends a t ∷ z.0)) ≡ false = rw (seen_after-append [] p (ends a t ∷ z.0)) z.3 in
        let h : upto (trace sub r) n k ≡ (p ++ ends a t ∷ z.0) ++ ends x.0 x.1 ∷ z.1 = e ∙ ap (λ (l : List Moment). p ++ ends a t ∷ l) z.2 ∙ sym (append_assoc p (ends a t ∷ z.0) (ends x.0 x.1 ∷ z.1)) in
        rw x.3 (precedes p z.0 z.1 a x.0 t x.1 h f g)) (rw (seen_after-append [] p (ends a t ∷ [])) at (in-order-from (p ++ ends a t ∷ []) ms (e ∙ sym (append_assoc p (ends a t ∷ []) ms))))

    pub readings-in-order : InOrder sub r (readings n k)
    unfolding readings seen_after
    readings-in-order = in-order-from [] (upto (trace sub r) n k) refl

  -- the order is strict
  pub never-itself : (x : Row) → ¬ Precedes sub r x x
  unfolding row
  never-itself x h =
      let e : h.n ≡ h.m = cc (h.left.is, h.right.is) in
      let d : Derivation sub r h.m h.t = rw e at h.left.derives in
      elim h.sooner [
        | inl l ↦ omega arith
        | inr l ↦ elim (h.right.first h.t d (h.left.is ∙ ap (λ (i : ℕ). row i h.t) e)) [
          | inl q ↦ (let b : Before h.t.path h.t.path = rw q at l.1 in not-both b b)
          | inr b ↦ not-both b l.1
        ]
      ]

  pub order-once : (l : List Row) → InOrder sub r l → Distinct l
  order-once [] h = tt
  order-once (x ∷ l) h = (λ i. never-itself x (h.0 x i), order-once l h.1)

  order-cross : (a b : List Row) (x y : Row) → InOrder sub r (a ++ b) → In x a → In y b → Precedes sub r x y
  order-cross [] b x y h i j = absurd i
  order-cross (z ∷ a) b x y h (inl e) j = rw e at (h.0 y (in_right y a b j))
  order-cross (z ∷ a) b x y h (inr i) j = order-cross a b x y h.1 i j

  -- behind the last walk they are all that have a derivation
  pub every : (x : Row) → In x (readings (suc (length sub)) 0) ↔ Reading sub r x
  every x =
      let a = readings-are (suc (length sub)) 0 x in (
        λ i. (let b = a.0 i in let s = in-runs-start (suc (length sub)) 0 b.m b.k (inr (refl, refl)) b.earlier in record { n = b.m; t = b.t; start = s; derives = reaches-derives sub r b.m b.k b.t s b.reaches; is = b.is }),
        λ y. (let z = derives-reaches sub r y.n y.t y.start y.derives in a.1 (record { m = y.n; k = z.0; t = y.t; earlier = inl (omega (arith, y.start)); reaches = z.1; is = y.is })),
      )

  -- those of a place come first among them
  readings-grow : (n k : ℕ) → InRuns n k → (later : List Row) × (readings (suc (length sub)) 0 ≡ readings n k ++ later)
  unfolding readings
  readings-grow n k (inl s) =
      let z = upto-grows (trace sub r) n k (suc (length sub)) 0 (omega arith) in
      (rows_of (fresh (seen_after [] (upto (trace sub r) n k)) z.0), rw z.1 (rw (fresh-append [] (upto (trace sub r) n k) z.0) (rows_of-append (fresh [] (upto (trace sub r) n k)) (fresh (seen_after [] (upto (trace sub r) n k)) z.0))))
  readings-grow n k (inr e) = ([], rw (e.0, e.1) (sym (append-nil _)))

  pub readings-first : (n k : ℕ) → InRuns n k → (x y : Row) → In x (readings n k) → Reading sub r y → ¬ In y (readings n k) → Precedes sub r x y
  readings-first n k f x y i d j =
      let z = readings-grow n k f in
      let o : InOrder sub r (readings n k ++ z.0) = rw z.1 at (readings-in-order (suc (length sub)) 0 (inr (refl, refl))) in
      elim (in-or y (readings n k) z.0 (rw z.1 at ((every y).1 d))) [ inl l ↦ absurd (j l) | inr l ↦ order-cross (readings n k) z.0 x y o i l ]

-- 01: "A reading is new where its start's walk reaches the rule's end with it for the first time": no other start matters
pub new-per-start : (sub : List ℕ) (r : Rule) (n j : ℕ) (t : State) → ReachedBefore sub r n j (row n t) ↔ ((k : ℕ) × (u : State) × (k < j) × Reaches (trace sub r n) k u × (row n t ≡ row n u))
unfolding row
new-per-start sub r n j t = (
  λ b. (let e : n ≡ b.m = cc b.is in elim b.earlier [
    | inl l ↦ absurd (omega arith)
    | inr l ↦ (b.k, b.t, l.1, subst (λ (i : ℕ). Reaches (trace sub r i) b.k b.t) (sym e) b.reaches, b.is ∙ ap (λ (i : ℕ). row i b.t) (sym e))
  ]),
  λ z. record { m = n; k = z.0; t = z.1; earlier = inr (refl, z.2); reaches = z.3; is = z.4 },
)
