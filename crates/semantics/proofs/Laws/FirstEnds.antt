-- What is answered of any walks, one start after another: the first end that they reach within the budget, or where they stop. No rule stands here:
-- a run ends at one place (Laws.Runs), and an end that it met stands at an earlier one (Laws.Places).
use Rattle.std.specs.Prelude.{◌≡◌, refl, ◌∷◌, ◌⊎◌}
use Rattle.std.proofs.Math.Path.{ap}
use Rattle.std.proofs.Common.{sym, ◌∙◌}
use Rattle.std.proofs.Math.Logic.{inl, inr}
use Prim.Native.Nat.{ℕ, suc, ◌+◌, ◌<◌, ◌≤◌}
use native.Mathlib.Omega.{arith}
use Rattle.std.proofs.Math.ListN.{length}
use Rattle.semantics.specs.States.{State}
use Rattle.semantics.specs.Walk.{Trace, Reaches}
use Rattle.semantics.specs.Runs.{ends, Run, run}
use Rattle.semantics.specs.Answers.{matched, not_matched, exhausted, Answer, unmatched, first}
use Rattle.semantics.specs.Demands.{In, Earlier, steps_before}
use Rattle.semantics.proofs.Laws.Members.{in_right}
use Rattle.semantics.proofs.Laws.Places.{upto, upto-length, reaches-below, upto-place, reached-split}
use Rattle.semantics.proofs.Laws.Runs.{Within, Point, run-point}
use Rattle.semantics.proofs.Laws.Views.{first-view}

-- the match of a run
abbrev pub first_answer : Run → Answer
first_answer x = first x.met x.stop

-- no end is reached before a place
abbrev pub NoEndBefore : (ℕ → Trace) → ℕ → ℕ → Type 0
NoEndBefore w n j = (m k : ℕ) (t : State) → Earlier m k n j → ¬ Reaches (w m) k t

-- nothing that a run met up to there was an end
unmet : (w : ℕ → Trace) (m j : ℕ) → ((n : ℕ) (t : State) → ¬ In (ends n t) (upto w m j)) → NoEndBefore w m j
unmet w m j none n k t h g =
    let z = reached-split w n k m j t g h in
    none n t (rw z.1 (in_right (ends n t) (upto w n k) (ends n t ∷ z.0) (inl refl)))

module _ (w : ℕ → Trace) (budget c : ℕ) where
  -- one of three
  pub record MeetsEnd (a : Answer) : Type 0 where
    pub n : ℕ
    pub j : ℕ
    pub t : State
    pub start : n < c
    pub within : (m : ℕ) → m < n → Within budget w m
    pub in_time : j < budget
    pub reaches : Reaches (w n) j t
    pub none_before : NoEndBefore w n j
    pub is : a ≡ record { outcome = matched n t; steps = steps_before w n + suc j }

  pub record MeetsBudget (a : Answer) : Type 0 where
    pub n : ℕ
    pub start : n < c
    pub within : (m : ℕ) → m < n → Within budget w m
    pub needs : budget < length (w n)
    pub none_before : NoEndBefore w n budget
    pub is : a ≡ record { outcome = exhausted n; steps = steps_before w n + budget }

  pub record MeetsNothing (a : Answer) : Type 0 where
    pub within : (m : ℕ) → m < c → Within budget w m
    pub none_before : NoEndBefore w c 0
    pub is : a ≡ record { outcome = not_matched; steps = steps_before w c }

  -- an end that a run met stands at a start, within the budget
  pub met_at : (x : Run) (o : Point budget w c x) (n k : ℕ) (t : State) → Earlier n k o.m o.j → Reaches (w n) k t → (n < c) × (n ≤ o.m) × (k < budget)
  met_at x o n k t (inl l) h =
      let b = reaches-below (w n) k t h in
      let d = o.within n l in
      (elim o.why [ inl y ↦ omega (arith, y.0) | inr y ↦ omega (arith, y.0) ], omega arith, omega arith)
  met_at x o n k t (inr e) h =
      let d = o.paid in
      (elim o.why [ inl y ↦ absurd (omega (arith, y.1)) | inr y ↦ omega (arith, y.0) ], omega arith, omega arith)

  pub first-of-run : MeetsEnd (first_answer (run budget w 0 c)) ⊎ (MeetsBudget (first_answer (run budget w 0 c)) ⊎ MeetsNothing (first_answer (run budget w 0 c)))
  unfolding unmatched
  first-of-run =
      let x = run budget w 0 c in
      let o : Point budget w c x = run-point budget w c in
      elim (first-view x.met x.stop) [
        | inl v ↦
            let none : NoEndBefore w o.m o.j = unmet w o.m o.j (λ n t h. v.none n t (rw o.met h)) in
            let cost : length x.met ≡ steps_before w o.m + o.j = ap length o.met ∙ upto-length w o.m o.j o.inside in
            elim o.why [
              | inl y ↦ inr (inr (record {
                within = λ m l. o.within m (omega (arith, y.0));
                none_before = rw (y.0, y.1) at none;
                is = v.is ∙ rw (y.2, cost) (rw (y.0, y.1) (let e : steps_before w c + 0 ≡ steps_before w c = omega arith in rw e));
              }))
              | inr y ↦ inr (inl (record {
                n = o.m;
                start = y.0;
                within = o.within;
                needs = y.2;
                none_before = rw y.1 at none;
                is = v.is ∙ rw (y.3, cost) (rw y.1);
              }))
            ]
        | inr v ↦
            let z = upto-place w o.m o.j v.p v.q v.n v.t (sym o.met ∙ v.at) in
            let h = z.0 in
            let g = met_at x o v.n h.k v.t z.1 h.reaches in
            inl (record {
              n = v.n;
              j = h.k;
              t = v.t;
              start = g.0;
              within = λ m l. o.within m (omega (arith, g.1));
              in_time = g.2;
              reaches = h.reaches;
              none_before = unmet w v.n h.k (λ m u i. v.none m u (rw h.past i));
              is = v.is ∙ (let e : suc (length v.p) ≡ steps_before w v.n + suc h.k = ap suc (ap length h.past ∙ upto-length w v.n h.k (omega (arith, reaches-below (w v.n) h.k v.t h.reaches))) ∙ omega arith in rw e);
            })
      ]
