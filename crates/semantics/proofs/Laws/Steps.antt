-- 01: "so at most budget x (length + 1)". It follows from the demands alone: each start before the last has ended within the budget.
use Rattle.std.specs.Prelude.{◌≡◌, refl, List, ℕ, zero, suc, ◌+◌, ◌*◌, ◌≤◌, ◌<◌, length}
use Rattle.std.proofs.Common.{inl, inr, arith, mul_comm, add-one}
use Rattle.syntax.specs.Tree.{Rule}
use Rattle.semantics.specs.Walk.{Trace, trace}
use Rattle.semantics.specs.Answers.{Outcome, matched, not_matched, exhausted, Answer, Ending, complete, full, exhausted_at, Listing}
use Rattle.semantics.specs.Demands.{steps_before, Demand2, Demand3}
use Rattle.semantics.proofs.Laws.Cases.{le-or}
use Rattle.semantics.proofs.Laws.Matches.{same_place, reaches-derives}

steps_before-most : (w : ℕ → Trace) (budget k n : ℕ) → n ≤ k → ((i : ℕ) → i < n → length (w i) ≤ budget) → steps_before w n ≤ k * budget
unfolding steps_before
steps_before-most w budget k zero l h = omega arith
steps_before-most w budget zero (suc n) l h = absurd (omega arith)
steps_before-most w budget (suc k) (suc n) l h = omega (arith, steps_before-most w budget k n (omega arith) (λ i v. h i (omega arith)), h n (omega arith))

-- the same number as 01 writes it
as_written : (budget n steps : ℕ) → steps ≤ suc n * budget → steps ≤ budget * (n + 1)
as_written budget n steps h = rw (add-one n, mul_comm budget (suc n)) h

module _ (sub : List ℕ) (r : Rule) (budget : ℕ) where
  pub match-steps : (a : Answer) → Demand2 sub r budget a → a.steps ≤ budget * (length sub + 1)
  match-steps a x = as_written budget (length sub) a.steps (go a.outcome refl)
    where
      go : (o : Outcome) → a.outcome ≡ o → a.steps ≤ suc (length sub) * budget
      go (matched n t) e =
          let w = (x.matched_exactly n t).0 e in
          let p = x.steps_matched n t e in
          let s = same_place sub r n p.0 w.in_time.0 t w.start p.1 w.in_time.2 in
          omega (arith, p.2, s, w.in_time.1, steps_before-most (trace sub r) budget (length sub) n w.start (λ i l. (w.leftmost i l).1))
      go not_matched e = omega (arith, x.steps_not_matched e, steps_before-most (trace sub r) budget (suc (length sub)) (suc (length sub)) (omega arith) (λ i l. (x.not_matched_exactly.0 e i (omega arith)).1))
      go (exhausted n) e =
          let w = (x.exhausted_exactly n).0 e in
          omega (
            arith,
            x.steps_exhausted n e,
            steps_before-most (trace sub r) budget (length sub) n w.start (λ i l. elim (le-or (length (trace sub r i)) budget) [
              | inl h ↦ h
              | inr o ↦ absurd ((w.first_such i l).1 (record { needs = o; no_end = λ j t v g. (w.first_such i l).0 t (reaches-derives sub r i j t (omega (arith, w.start)) g) }))
            ]),
          )

  module _ (room : ℕ) where
    pub listing-steps : (l : Listing) → Demand3 sub r budget room l → l.steps ≤ budget * (length sub + 1)
    listing-steps l x = as_written budget (length sub) l.steps (go l.ending refl)
      where
        go : (e : Ending) → l.ending ≡ e → l.steps ≤ suc (length sub) * budget
        go complete e = omega (arith, x.steps_complete e, steps_before-most (trace sub r) budget (suc (length sub)) (suc (length sub)) (omega arith) (λ i v. (x.otherwise_complete.0 e).0 i (omega arith)))
        go full e = let c = x.cut_by_room.0 e in omega (arith, x.steps_full c.0 c.1 c.2, c.2.within, steps_before-most (trace sub r) budget (length sub) c.0 c.2.full_at.start c.2.not_exhausted_before)
        go (exhausted_at n) e = let c = (x.cut_by_budget n).0 e in omega (arith, x.steps_exhausted n e, steps_before-most (trace sub r) budget (length sub) n c.start c.first_such)
