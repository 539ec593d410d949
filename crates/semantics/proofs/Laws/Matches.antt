-- Demand 2: each outcome implies its facts, and no two sets of facts hold together, so each holds exactly when its facts do.
use Rattle.std.specs.Prelude.{◌≡◌, refl, List, ◌⊎◌, ℕ, suc, ◌+◌, ◌≤◌, ◌<◌, length}
use Rattle.std.proofs.Math.Path.{ap}
use Rattle.std.proofs.Common.{◌∙◌, arith}
use Rattle.std.proofs.Math.Logic.{inl, inr}
use Rattle.syntax.specs.Tree.{Rule}
use Rattle.semantics.specs.States.{Before, State}
use Rattle.semantics.specs.Derivations.{Derivation}
use Rattle.semantics.specs.Walk.{trace, Reaches}
use Rattle.semantics.proofs.Theorem.{walk-lists-derivations}
use Rattle.semantics.specs.Runs.{runs}
use Rattle.semantics.specs.Answers.{matched, not_matched, exhausted, Answer, answer}
use Rattle.semantics.specs.Demands.{Earlier, steps_before, Start, NoDerivation, EndsWithin, MatchedWhen, ExhaustedWhen, Demand2}
use Rattle.semantics.proofs.Laws.Cases.{clash, three}
use Rattle.semantics.proofs.Laws.Traces.{not-both, reaches-one}
use Rattle.semantics.proofs.Laws.Runs.{Point, run-point}
use Rattle.semantics.proofs.Laws.FirstEnds.{NoEndBefore, met_at, first-of-run}

-- Theorem, in the form that is used below: the walk from a start reaches its derivations, in their order.
module _ (sub : List ℕ) (r : Rule) where
  pub derives-reaches : (n : ℕ) (t : State) → Start sub n → Derivation sub r n t → (j : ℕ) × Reaches (trace sub r n) j t
  derives-reaches n t s d = (walk-lists-derivations sub r n s).derivations_end t d

  pub reaches-derives : (n j : ℕ) (t : State) → Start sub n → Reaches (trace sub r n) j t → Derivation sub r n t
  reaches-derives n j t s h = (walk-lists-derivations sub r n s).ends_derive j t h

  pub reaches-order : (n i j : ℕ) (t u : State) → Start sub n → Reaches (trace sub r n) i t → Reaches (trace sub r n) j u → i < j → Before t.path u.path
  reaches-order n i j t u s x y l = (walk-lists-derivations sub r n s).by_priority i j t u l x y

  -- a state is reached once
  pub same_place : (n i j : ℕ) (t : State) → Start sub n → Reaches (trace sub r n) i t → Reaches (trace sub r n) j t → i ≡ j
  same_place n i j t s g h = elim (three i j) [
    | inl l ↦ (let b = reaches-order n i j t t s g h l in absurd (not-both b b))
    | inr x ↦ elim x [ inl e ↦ e | inr l ↦ (let b = reaches-order n j i t t s h g l in absurd (not-both b b)) ]
  ]

  -- what is reached after k steps comes before all that is reached later
  pub from-here : (n k : ℕ) (t u : State) → Start sub n → Reaches (trace sub r n) k t → Derivation sub r n u → ((j : ℕ) → j < k → ¬ Reaches (trace sub r n) j u) → (t ≡ u) ⊎ Before t.path u.path
  from-here n k t u s h d f =
      let z = derives-reaches n u s d in
      elim (three k z.0) [
        | inl l ↦ inr (reaches-order n k z.0 t u s h z.1 l)
        | inr x ↦ elim x [
          | inl e ↦ inl (reaches-one (trace sub r n) k t u h (rw e z.1))
          | inr l ↦ absurd (f z.0 l z.1)
        ]
      ]

-- Demand 2 -------------------------------------------------------------

module _ (sub : List ℕ) (r : Rule) (budget : ℕ) where
  -- where the runs end
  pub point : Point budget (trace sub r) (suc (length sub)) (runs sub r budget)
  unfolding runs
  point = run-point budget (trace sub r) (suc (length sub))

  -- one of the three
  pub record IsMatched (a : Answer) : Type 0 where
    pub n : ℕ
    pub t : State
    pub when : MatchedWhen sub r budget n t
    pub is : a.outcome ≡ matched n t
    pub j : ℕ
    pub reaches : Reaches (trace sub r n) j t
    pub cost : a.steps ≡ steps_before (trace sub r) n + suc j

  pub record IsExhausted (a : Answer) : Type 0 where
    pub n : ℕ
    pub when : ExhaustedWhen sub r budget n
    pub is : a.outcome ≡ exhausted n
    pub cost : a.steps ≡ steps_before (trace sub r) n + budget

  pub record IsNotMatched (a : Answer) : Type 0 where
    pub when : (n : ℕ) → Start sub n → NoDerivation sub r n × EndsWithin sub r budget n
    pub is : a.outcome ≡ not_matched
    pub cost : a.steps ≡ steps_before (trace sub r) (suc (length sub))

  -- an end that a run met stands at a start, within the budget
  pub at-start : (n k : ℕ) (t : State) → Earlier n k point.m point.j → Reaches (trace sub r n) k t → Start sub n × (n ≤ point.m) × (k < budget)
  at-start n k t e h = let g = met_at (trace sub r) budget (suc (length sub)) (runs sub r budget) point n k t e h in (omega (arith, g.0), g.1, g.2)

  -- no end before a place: no derivation at an earlier start
  no-derivation-before : (m j : ℕ) → NoEndBefore (trace sub r) m j → (n : ℕ) → Start sub n → n < m → NoDerivation sub r n
  no-derivation-before m j none n s l t d = let z = derives-reaches sub r n t s d in none n z.0 t (inl l) z.1

  answer-view : IsMatched (answer sub r budget) ⊎ (IsExhausted (answer sub r budget) ⊎ IsNotMatched (answer sub r budget))
  unfolding answer runs
  answer-view = elim (first-of-run (trace sub r) budget (suc (length sub))) [
    | inl v ↦ inl (record {
      n = v.n;
      t = v.t;
      when = record {
        start = omega (arith, v.start);
        leftmost = λ m l. (no-derivation-before v.n v.j v.none_before m (omega (arith, v.start)) l, v.within m l);
        first_by_priority = record {
          derives = reaches-derives sub r v.n v.j v.t (omega (arith, v.start)) v.reaches;
          first = λ u d. from-here sub r v.n v.j v.t u (omega (arith, v.start)) v.reaches d (λ j l. v.none_before v.n j u (inr (refl, l)));
        };
        in_time = (v.j, v.in_time, v.reaches);
      };
      is = ap (λ (a : Answer). a.outcome) v.is;
      j = v.j;
      reaches = v.reaches;
      cost = ap (λ (a : Answer). a.steps) v.is;
    })
    | inr x ↦ inr (elim x [
      | inl v ↦ inl (record {
        n = v.n;
        when = record {
          start = omega (arith, v.start);
          overruns = record { needs = v.needs; no_end = λ j t l. v.none_before v.n j t (inr (refl, l)) };
          first_such = λ m l. (no-derivation-before v.n budget v.none_before m (omega (arith, v.start)) l, λ z. absurd (omega (arith, z.needs, v.within m l)));
        };
        is = ap (λ (a : Answer). a.outcome) v.is;
        cost = ap (λ (a : Answer). a.steps) v.is;
      })
      | inr v ↦ inr (record {
        when = λ n s. (no-derivation-before (suc (length sub)) 0 v.none_before n s (omega arith), v.within n (omega arith));
        is = ap (λ (a : Answer). a.outcome) v.is;
        cost = ap (λ (a : Answer). a.steps) v.is;
      })
    ])
  ]

  -- no two of them at once
  matched-once : (n m : ℕ) (t u : State) → MatchedWhen sub r budget n t → MatchedWhen sub r budget m u → matched n t ≡ matched m u
  matched-once n m t u a b = elim (three n m) [
    | inl l ↦ absurd ((b.leftmost n l).0 t a.first_by_priority.derives)
    | inr x ↦ elim x [
      | inl e ↦ go m e u b
      | inr l ↦ absurd ((a.leftmost m l).0 u b.first_by_priority.derives)
    ]
  ]
    where
      go : (m : ℕ) → n ≡ m → (u : State) → MatchedWhen sub r budget m u → matched n t ≡ matched m u
      go m e u b =
          let c : MatchedWhen sub r budget n u = rw e b in
          elim (a.first_by_priority.first u c.first_by_priority.derives) [
            | inl q ↦ cc
            | inr x ↦ elim (c.first_by_priority.first t a.first_by_priority.derives) [ inl q ↦ cc | inr y ↦ absurd (not-both x y) ]
          ]

  matched-exhausted : (n m : ℕ) (t : State) → MatchedWhen sub r budget n t → ExhaustedWhen sub r budget m → ⊥
  matched-exhausted n m t a b = elim (three n m) [
    | inl l ↦ (b.first_such n l).0 t a.first_by_priority.derives
    | inr x ↦ elim x [
      | inl e ↦ (let h = a.in_time in b.overruns.no_end h.0 t h.1 (rw e at h.2))
      | inr l ↦ omega (arith, (a.leftmost m l).1, b.overruns.needs)
    ]
  ]

  exhausted-once : (n m : ℕ) → ExhaustedWhen sub r budget n → ExhaustedWhen sub r budget m → n ≡ m
  exhausted-once n m a b = elim (three n m) [
    | inl l ↦ absurd ((b.first_such n l).1 a.overruns)
    | inr x ↦ elim x [ inl e ↦ e | inr l ↦ absurd ((a.first_such m l).1 b.overruns) ]
  ]

  pub demand_2 : Demand2 sub r budget (answer sub r budget)
  demand_2 = elim answer-view [
    | inl v ↦ record {
      matched_exactly = λ n t. (λ e. (let f : v.n ≡ n = cc (v.is, e) in let g : v.t ≡ t = cc (v.is, e) in rw (f, g) at v.when), λ w. v.is ∙ matched-once v.n n v.t t v.when w);
      not_matched_exactly = (λ e. absurd (clash (cc (v.is, e))), λ w. absurd ((w v.n v.when.start).0 v.t v.when.first_by_priority.derives));
      exhausted_exactly = λ n. (λ e. absurd (clash (cc (v.is, e))), λ w. absurd (matched-exhausted v.n n v.t v.when w));
      steps_matched = λ n t e. (let f : v.n ≡ n = cc (v.is, e) in let g : v.t ≡ t = cc (v.is, e) in let y : (x : ℕ) × Reaches (trace sub r v.n) x v.t × ((answer sub r budget).steps ≡ steps_before (trace sub r) v.n + suc x) = (v.j, v.reaches, v.cost) in rw (f, g) at y);
      steps_not_matched = λ e. absurd (clash (cc (v.is, e)));
      steps_exhausted = λ n e. absurd (clash (cc (v.is, e)));
    }
    | inr x ↦ elim x [
      | inl v ↦ record {
        matched_exactly = λ n t. (λ e. absurd (clash (cc (v.is, e))), λ w. absurd (matched-exhausted n v.n t w v.when));
        not_matched_exactly = (λ e. absurd (clash (cc (v.is, e))), λ w. absurd (omega (arith, (w v.n v.when.start).1, v.when.overruns.needs)));
        exhausted_exactly = λ n. (λ e. (let f : v.n ≡ n = cc (v.is, e) in rw f at v.when), λ w. v.is ∙ ap exhausted (exhausted-once v.n n v.when w));
        steps_matched = λ n t e. absurd (clash (cc (v.is, e)));
        steps_not_matched = λ e. absurd (clash (cc (v.is, e)));
        steps_exhausted = λ n e. (let f : v.n ≡ n = cc (v.is, e) in rw f at v.cost);
      }
      | inr v ↦ record {
        matched_exactly = λ n t. (λ e. absurd (clash (cc (v.is, e))), λ w. absurd ((v.when n w.start).0 t w.first_by_priority.derives));
        not_matched_exactly = (λ e. v.when, λ w. v.is);
        exhausted_exactly = λ n. (λ e. absurd (clash (cc (v.is, e))), λ w. absurd (omega (arith, (v.when n w.start).1, w.overruns.needs)));
        steps_matched = λ n t e. absurd (clash (cc (v.is, e)));
        steps_not_matched = λ e. v.cost;
        steps_exhausted = λ n e. absurd (clash (cc (v.is, e)));
      }
    ]
  ]
