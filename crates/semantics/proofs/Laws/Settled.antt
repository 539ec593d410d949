-- Demands 2 and 3 settle the answer and the listing: of two that meet them, the same facts give the same outcome, and two lists in one
-- strict order with the same elements are the same.
use Rattle.std.specs.Prelude.{◌≡◌, refl, List, [], ◌∷◌, ◌⊎◌, ◌↔◌, ℕ, suc, ◌+◌, ◌<◌}
use Rattle.std.proofs.Math.Path.{ap, sym}
use Rattle.std.proofs.Common.{◌∙◌, arith}
use Rattle.std.proofs.Math.Logic.{inl, inr}
use Rattle.syntax.specs.Tree.{Rule}
use Rattle.semantics.specs.States.{Before, State, Row, row}
use Rattle.semantics.specs.Walk.{trace}
use Rattle.semantics.specs.Answers.{Outcome, matched, not_matched, exhausted, Answer, Ending, complete, full, exhausted_at, Listing}
use Rattle.semantics.specs.Demands.{In, steps_before, Demand2, FirstOf, Precedes, InOrder, Demand3}
use Rattle.semantics.proofs.Laws.Traces.{not-both}
use Rattle.semantics.proofs.Laws.Matches.{same_place}
use Rattle.semantics.proofs.Laws.Readings.{never-itself}

module _ (sub : List ℕ) (r : Rule) (budget : ℕ) where
  pub demand-2-settles : (a b : Answer) → Demand2 sub r budget a → Demand2 sub r budget b → a ≡ b
  demand-2-settles a b x y = go a.outcome refl
    where
      both : a.outcome ≡ b.outcome → a.steps ≡ b.steps → a ≡ b
      both e f = rw (e, f)

      go : (o : Outcome) → a.outcome ≡ o → a ≡ b
      go (matched n t) e =
          let f = (y.matched_exactly n t).1 ((x.matched_exactly n t).0 e) in
          let p = x.steps_matched n t e in
          let q = y.steps_matched n t f in
          let s = same_place sub r n p.0 q.0 t ((x.matched_exactly n t).0 e).start p.1 q.1 in
          both (e ∙ sym f) (p.2 ∙ ap (λ (j : ℕ). steps_before (trace sub r) n + suc j) s ∙ sym q.2)
      go not_matched e = let f = y.not_matched_exactly.1 (x.not_matched_exactly.0 e) in both (e ∙ sym f) (x.steps_not_matched e ∙ sym (y.steps_not_matched f))
      go (exhausted n) e = let f = (y.exhausted_exactly n).1 ((x.exhausted_exactly n).0 e) in both (e ∙ sym f) (x.steps_exhausted n e ∙ sym (y.steps_exhausted n f))

module _ (sub : List ℕ) (r : Rule) where
  firsts-agree : (x : Row) (n m : ℕ) (t u : State) → FirstOf sub r x n t → FirstOf sub r x m u → (n ≡ m) × (t ≡ u)
  unfolding row
  firsts-agree x n m t u a b = (
    e,
    elim (a.first u (rw (← e) at b.derives) (b.is ∙ ap (λ (i : ℕ). row i u) (sym e))) [
      | inl q ↦ q
      | inr p ↦ elim (b.first t (rw e at a.derives) (a.is ∙ ap (λ (i : ℕ). row i t) e)) [ inl q ↦ sym q | inr q ↦ absurd (not-both p q) ]
    ],
  )
    where
      e : n ≡ m
      e = cc (a.is, b.is)

  one_way : (x y : Row) → Precedes sub r x y → Precedes sub r y x → ⊥
  one_way x y a b =
      let p = firsts-agree x a.n b.m a.t b.u a.left b.right in
      let q = firsts-agree y b.n a.m b.t a.u b.left a.right in
      let z : (a.m < a.n) ⊎ ((a.m ≡ a.n) × Before a.u.path a.t.path) = rw (p.0, p.1) (rw (← q.0, ← q.1) b.sooner) in
      elim a.sooner [
        | inl l ↦ elim z [ inl k ↦ omega arith | inr k ↦ omega arith ]
        | inr l ↦ elim z [ inl k ↦ omega arith | inr k ↦ not-both l.1 k.1 ]
      ]

  same-list : (a b : List Row) → InOrder sub r a → InOrder sub r b → ((x : Row) → In x a ↔ In x b) → a ≡ b
  same-list [] [] g h f = refl
  same-list [] (y ∷ b) g h f = absurd ((f y).1 (inl refl))
  same-list (x ∷ a) [] g h f = absurd ((f x).0 (inl refl))
  same-list (x ∷ a) (y ∷ b) g h f = cc (
    head,
    same-list a b g.1 h.1 (λ z. (
      λ i. elim ((f z).0 (inr i)) [ inl e ↦ absurd (never-itself sub r x (g.0 x (rw (head ∙ e) i))) | inr j ↦ j ],
      λ j. elim ((f z).1 (inr j)) [ inl e ↦ absurd (never-itself sub r y (h.0 y (rw (sym head ∙ e) j))) | inr i ↦ i ],
    )),
  )
    where
      head : x ≡ y
      head = elim ((f x).0 (inl refl)) [
        | inl e ↦ sym e
        | inr j ↦ elim ((f y).1 (inl refl)) [ inl e ↦ e | inr i ↦ absurd (one_way x y (g.0 y i) (h.0 x j)) ]
      ]

  module _ (budget room : ℕ) where
    pub demand-3-settles : (k l : Listing) → Demand3 sub r budget room k → Demand3 sub r budget room l → k ≡ l
    demand-3-settles k l x y = go k.ending refl
      where
        all : k.ending ≡ l.ending → ((z : Row) → In z k.rows ↔ In z l.rows) → k.steps ≡ l.steps → k ≡ l
        all e f g = let h = same-list k.rows l.rows x.one_order y.one_order f in rw (e, g, h)

        through : {A B C : Type 0} → A ↔ C → B ↔ C → A ↔ B
        through p q = (λ a. q.1 (p.0 a), λ b. p.1 (q.0 b))

        go : (e : Ending) → k.ending ≡ e → k ≡ l
        go complete e = let f = y.otherwise_complete.1 (x.otherwise_complete.0 e) in all (e ∙ sym f) (λ z. through (x.complete_rows e z) (y.complete_rows f z)) (x.steps_complete e ∙ sym (y.steps_complete f))
        go full e =
            let c = x.cut_by_room.0 e in
            let f = y.cut_by_room.1 c in
            all (e ∙ sym f) (λ z. through (x.rows_before_room c.0 c.1 c.2 z) (y.rows_before_room c.0 c.1 c.2 z)) (x.steps_full c.0 c.1 c.2 ∙ sym (y.steps_full c.0 c.1 c.2))
        go (exhausted_at n) e = let f = (y.cut_by_budget n).1 ((x.cut_by_budget n).0 e) in all (e ∙ sym f) (λ z. through (x.rows_before_budget n e z) (y.rows_before_budget n f z)) (x.steps_exhausted n e ∙ sym (y.steps_exhausted n f))
