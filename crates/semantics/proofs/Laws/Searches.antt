-- A search: what it answers is settled by derivations. Its tries are a run in which no start before its first is walked, so that Laws.FirstEnds tells
-- what it meets; a barred try reaches the ends of its walk that are not barred, after the same steps. Then each answer implies its facts, and no two sets
-- of facts hold together.
use Rattle.std.specs.Prelude.{◌≡◌, List, [], ◌∷◌, ◌⊎◌, Bool, true, false, ◌&&◌, eqb, ltb, if◌then◌else◌}
use Rattle.std.proofs.Math.Path.{refl, ap, sym}
use Rattle.std.proofs.Common.{◌∙◌}
use Rattle.std.proofs.Math.Logic.{inl, inr}
use Prim.Native.Nat.{ℕ, zero, suc, ◌+◌, ◌-◌, ◌≤◌, ◌<◌}
use native.Mathlib.Omega.{arith}
use Rattle.std.proofs.Math.ListN.{length}
use borrow.Author.Tests.{eq-eqb, ne_eqb, lt-ltb, le-ltb}
use Rattle.syntax.specs.Tree.{Rule}
use Rattle.semantics.specs.States.{State}
use Rattle.semantics.specs.Walk.{step, miss, end, Trace, trace, Reaches}
use Rattle.semantics.specs.Runs.{spend, run, runs}
use Rattle.semantics.specs.Answers.{matched, not_matched, exhausted, Answer, answer}
use Rattle.semantics.specs.Scans.{is_empty, barring, tries, search_from}
use Rattle.semantics.specs.Demands.{Earlier, steps_before}
use Rattle.semantics.specs.ScanDemands.{steps_between, Barred, Allowed, InVain, SearchMatched, SearchExhausted, SearchNotMatched}
use Rattle.semantics.proofs.Laws.Cases.{clash, bool, three, le-or, same_or}
use Rattle.semantics.proofs.Laws.Traces.{not-both}
use Rattle.semantics.proofs.Laws.FirstEnds.{NoEndBefore, first-of-run}
use Rattle.semantics.proofs.Laws.Matches.{derives-reaches, reaches-derives, from-here}

-- Barred ends ----------------------------------------------------------------------

abbrev Bars : Bool → ℕ → State → Type 0
Bars barred start t = (barred ≡ true) × (t.at ≡ start)

bars-or : (barred : Bool) (start : ℕ) (t : State) → (((barred && is_empty start t) ≡ true) × Bars barred start t) ⊎ (((barred && is_empty start t) ≡ false) × (¬ Bars barred start t))
unfolding is_empty
bars-or false start t = inr (refl, λ x. clash (cc x.0))
bars-or true start t = elim (same_or start t.at) [
  | inl e ↦ inl (eq-eqb start t.at e, (refl, sym e))
  | inr n ↦ inr (ne_eqb start t.at n, λ x. n (sym x.1))
]

pub allowed-end : (barred : Bool) (start : ℕ) (t : State) → ¬ Bars barred start t → (barred && is_empty start t) ≡ false
allowed-end barred start t n = elim (bars-or barred start t) [ inl x ↦ absurd (n x.1) | inr x ↦ x.0 ]

barred-or : (from : ℕ) (barred : Bool) (n : ℕ) (t : State) → Barred from barred n t ⊎ (¬ Barred from barred n t)
barred-or from barred n t = elim (bool barred) [
  | inl b ↦ elim (same_or n from) [
    | inl e ↦ elim (same_or t.at from) [ inl f ↦ inl (b, e, f) | inr f ↦ inr (λ x. f x.2) ]
    | inr e ↦ inr (λ x. e x.1)
  ]
  | inr b ↦ inr (λ x. clash (cc (b, x.0)))
]

pub barring-length : (barred : Bool) (start : ℕ) (es : Trace) → length (barring barred start es) ≡ length es
unfolding barring
barring-length barred start [] = refl
barring-length barred start (step ∷ es) = ap suc (barring-length barred start es)
barring-length barred start (miss place at ∷ es) = ap suc (barring-length barred start es)
barring-length barred start (end t ∷ es) = ap suc (barring-length barred start es)

pub barring-none : (start : ℕ) (es : Trace) → barring false start es ≡ es
unfolding barring
barring-none start [] = refl
barring-none start (step ∷ es) = rw (barring-none start es)
barring-none start (miss place at ∷ es) = rw (barring-none start es)
barring-none start (end t ∷ es) = rw (barring-none start es)

-- the ends that a try reaches are those of the walk that are not barred
barring-reaches : (barred : Bool) (start : ℕ) (es : Trace) (j : ℕ) (t : State) → Reaches (barring barred start es) j t → Reaches es j t × (¬ Bars barred start t)
unfolding barring
barring-reaches barred start [] j t h = absurd h
barring-reaches barred start (step ∷ es) zero t h = absurd (clash (cc))
barring-reaches barred start (miss p a ∷ es) zero t h = absurd (clash (cc))
barring-reaches barred start (end u ∷ es) zero t h = elim (bars-or barred start u) [
  | inl x ↦ (let f : step ≡ end t = rw x.0 at h in absurd (clash (cc)))
  | inr x ↦ (let f : end u ≡ end t = rw x.0 at h in let g : u ≡ t = cc in (f, rw g at x.1))
]
barring-reaches barred start (step ∷ es) (suc j) t h = barring-reaches barred start es j t h
barring-reaches barred start (miss p a ∷ es) (suc j) t h = barring-reaches barred start es j t h
barring-reaches barred start (end u ∷ es) (suc j) t h = barring-reaches barred start es j t h

reaches-barring : (barred : Bool) (start : ℕ) (es : Trace) (j : ℕ) (t : State) → Reaches es j t → ¬ Bars barred start t → Reaches (barring barred start es) j t
unfolding barring
reaches-barring barred start [] j t h n = absurd h
reaches-barring barred start (step ∷ es) zero t h n = h
reaches-barring barred start (miss p a ∷ es) zero t h n = h
reaches-barring barred start (end u ∷ es) zero t h n = let g : u ≡ t = cc in elim (bars-or barred start u) [ inl x ↦ absurd (n (rw g at x.1)) | inr x ↦ rw x.0 h ]
reaches-barring barred start (step ∷ es) (suc j) t h n = reaches-barring barred start es j t h n
reaches-barring barred start (miss p a ∷ es) (suc j) t h n = reaches-barring barred start es j t h n
reaches-barring barred start (end u ∷ es) (suc j) t h n = reaches-barring barred start es j t h n

-- Tries as a run from 0 on, in which the starts before the search have no step ---------

run-same : (budget : ℕ) (v w : ℕ → Trace) (n c : ℕ) → ((i : ℕ) → n ≤ i → v i ≡ w i) → run budget v n c ≡ run budget w n c
unfolding run
run-same budget v w n zero h = refl
run-same budget v w n (suc c) h = rw (h n (omega arith), run-same budget v w (suc n) c (λ i l. h i (omega arith)))

run-skips : (budget : ℕ) (w : ℕ → Trace) (n d c : ℕ) → ((i : ℕ) → i < n + d → w i ≡ []) → run budget w n (d + c) ≡ run budget w (n + d) c
unfolding run spend
run-skips budget w n zero c h = let e : n + 0 ≡ n = omega arith in let f : 0 + c ≡ c = omega arith in rw (e, f)
run-skips budget w n (suc d) c h =
    let e : n + suc d ≡ suc n + d = omega arith in
    let f : suc d + c ≡ suc (d + c) = omega arith in
    rw (e, f) (rw (h n (omega arith)) (run-skips budget w (suc n) d c (λ i l. h i (omega arith))))

module _ (sub : List ℕ) (r : Rule) (from : ℕ) (barred : Bool) where
  unfoldable walk_in : ℕ → Trace
  walk_in n = if ltb n from then [] else if eqb n from then barring barred from (trace sub r from) else trace sub r n

  walk_before : (n : ℕ) → n < from → walk_in n ≡ []
  unfolding walk_in
  walk_before n l = rw (lt-ltb n from l)

  walk_at : walk_in from ≡ barring barred from (trace sub r from)
  unfolding walk_in
  walk_at = rw (le-ltb from from (omega arith), eq-eqb from from refl)

  walk-behind : (n : ℕ) → from < n → walk_in n ≡ trace sub r n
  unfolding walk_in
  walk-behind n l = rw (le-ltb n from (omega arith), ne_eqb n from (λ e. omega arith))

  walk-length : (n : ℕ) → from ≤ n → length (walk_in n) ≡ length (trace sub r n)
  walk-length n l = elim (same_or n from) [
    | inl e ↦ rw e (rw walk_at (barring-length barred from (trace sub r from)))
    | inr d ↦ rw (walk-behind n (omega arith))
  ]

  walk-reaches : (n j : ℕ) (t : State) → Reaches (walk_in n) j t → (from ≤ n) × Reaches (trace sub r n) j t × (¬ Barred from barred n t)
  walk-reaches n j t h = elim (three n from) [
    | inl l ↦ (let f : Reaches [] j t = rw (walk_before n l) at h in absurd f)
    | inr x ↦ elim x [
      | inl e ↦ (let z = barring-reaches barred from (trace sub r from) j t (rw walk_at at (rw e at h)) in (omega arith, rw e z.0, λ b. z.1 (b.0, b.2)))
      | inr l ↦ (omega arith, rw (walk-behind n l) at h, λ b. omega (arith, b.1))
    ]
  ]

  reaches-walk : (n j : ℕ) (t : State) → from ≤ n → Reaches (trace sub r n) j t → ¬ Barred from barred n t → Reaches (walk_in n) j t
  reaches-walk n j t l h b = elim (same_or n from) [
    | inl e ↦ rw e (rw walk_at (reaches-barring barred from (trace sub r from) j t (rw e at h) (λ x. b (x.0, e, x.1))))
    | inr d ↦ rw (walk-behind n (omega arith)) h
  ]

  steps_none : (n : ℕ) → n ≤ from → steps_before walk_in n ≡ 0
  unfolding steps_before
  steps_none zero l = refl
  steps_none (suc n) l = rw (steps_none n (omega arith), walk_before n (omega arith))

  steps-shared : (d : ℕ) → steps_before walk_in (from + d) + steps_before (trace sub r) from ≡ steps_before (trace sub r) (from + d)
  unfolding steps_before
  steps-shared zero = let e : from + 0 ≡ from = omega arith in rw (e, steps_none from (omega arith)) (omega arith)
  steps-shared (suc d) = let e : from + suc d ≡ suc (from + d) = omega arith in rw e (omega (arith, steps-shared d, walk-length (from + d) (omega arith)))

  steps-walked : (n : ℕ) → from ≤ n → steps_before walk_in n ≡ steps_between (trace sub r) from n
  unfolding steps_between
  steps-walked n l =
      let e : from + (n - from) ≡ n = omega arith in
      let h : steps_before walk_in n + steps_before (trace sub r) from ≡ steps_before (trace sub r) n = rw e at (steps-shared (n - from)) in
      omega arith

  module _ (budget : ℕ) (inside : from ≤ length sub) where
    from_nothing : run budget walk_in 0 (suc (length sub)) ≡ run budget walk_in from (suc (length sub - from))
    from_nothing =
        let e : from + suc (length sub - from) ≡ suc (length sub) = omega arith in
        let f : 0 + from ≡ from = omega arith in
        rw (e, f) at (run-skips budget walk_in 0 from (suc (length sub - from)) (λ i l. walk_before i (omega arith)))

    tries-run : tries sub r budget from barred ≡ run budget walk_in 0 (suc (length sub))
    unfolding tries run
    tries-run = sym (from_nothing ∙ rw (walk_at, run-same budget walk_in (trace sub r) (suc from) (length sub - from) (λ i l. walk-behind i (omega arith))))

-- What a search answers -------------------------------------------------------------

module _ (sub : List ℕ) (r : Rule) (budget from : ℕ) (barred : Bool) where
  -- one of three
  pub record IsMatched (a : Answer) : Type 0 where
    pub n : ℕ
    pub t : State
    pub when : SearchMatched sub r budget from barred n t
    pub j : ℕ
    pub reaches : Reaches (trace sub r n) j t
    pub is : a ≡ record { outcome = matched n t; steps = steps_between (trace sub r) from n + suc j }

  pub record IsExhausted (a : Answer) : Type 0 where
    pub n : ℕ
    pub when : SearchExhausted sub r budget from barred n
    pub is : a ≡ record { outcome = exhausted n; steps = steps_between (trace sub r) from n + budget }

  pub record IsNotMatched (a : Answer) : Type 0 where
    pub when : SearchNotMatched sub r budget from barred
    pub is : a ≡ record { outcome = not_matched; steps = steps_between (trace sub r) from (suc (length sub)) }

  abbrev w : ℕ → Trace
  w = walk_in sub r from barred

  -- nothing allowed before a place
  none_allowed-before : (m j : ℕ) → NoEndBefore w m j → (n k : ℕ) (t : State) → Earlier n k m j → from ≤ n → Reaches (trace sub r n) k t → ¬ Allowed sub r from barred n t
  none_allowed-before m j none n k t e l h a = none n k t e (reaches-walk sub r from barred n k t l h a.not_barred)

  in-vain : (m j : ℕ) → NoEndBefore w m j → (n : ℕ) → from ≤ n → n ≤ length sub → n < m → length (w n) ≤ budget → InVain sub r budget from barred n
  in-vain m j none n l s e h = record {
    none_allowed = λ t a. (let z = derives-reaches sub r n t s a.derives in none_allowed-before m j none n z.0 t (inl e) l z.1 a);
    ends_within = rw (walk-length sub r from barred n l) at h;
  }

  pub search-view : from ≤ length sub → IsMatched (search_from sub r budget from barred) ⊎ (IsExhausted (search_from sub r budget from barred) ⊎ IsNotMatched (search_from sub r budget from barred))
  unfolding search_from
  search-view inside = rw (tries-run sub r from barred budget inside) (elim (first-of-run w budget (suc (length sub))) [
    | inl v ↦
        let h = walk-reaches sub r from barred v.n v.j v.t v.reaches in
        let s : v.n ≤ length sub = omega (arith, v.start) in
        inl (record {
          n = v.n;
          t = v.t;
          when = record {
            start = (h.0, s);
            leftmost = λ m l e. in-vain v.n v.j v.none_before m l (omega arith) e (v.within m e);
            first_by_priority = record {
              allowed = record { derives = reaches-derives sub r v.n v.j v.t s h.1; not_barred = h.2 };
              first = λ u a. from-here sub r v.n v.j v.t u s h.1 a.derives (λ i e g. none_allowed-before v.n v.j v.none_before v.n i u (inr (refl, e)) h.0 g a);
            };
            in_time = (v.j, v.in_time, h.1);
          };
          j = v.j;
          reaches = h.1;
          is = v.is ∙ rw (steps-walked sub r from barred v.n h.0);
        })
    | inr x ↦ inr (elim x [
      | inl v ↦
          let l : from ≤ v.n = elim (le-or from v.n) [ inl l ↦ l | inr l ↦ (let e = walk_before sub r from barred v.n l in absurd (omega (arith, ap length e, v.needs))) ] in
          inl (record {
            n = v.n;
            when = record {
              start = (l, omega (arith, v.start));
              first_such = λ m k e. in-vain v.n budget v.none_before m k (omega (arith, v.start)) e (v.within m e);
              needs = rw (walk-length sub r from barred v.n l) at v.needs;
              no_end = λ j t e h. elim (barred-or from barred v.n t) [ inl b ↦ b | inr b ↦ absurd (v.none_before v.n j t (inr (refl, e)) (reaches-walk sub r from barred v.n j t l h b)) ];
            };
            is = v.is ∙ rw (steps-walked sub r from barred v.n l);
          })
      | inr v ↦ inr (record {
        when = λ n s. in-vain (suc (length sub)) 0 v.none_before n s.0 s.1 (omega (arith, s.1)) (v.within n (omega (arith, s.1)));
        is = v.is ∙ rw (steps-walked sub r from barred (suc (length sub)) (omega arith));
      })
    ])
  ])

  -- no two of them at once
  pub matched-once : (n m : ℕ) (t u : State) → SearchMatched sub r budget from barred n t → SearchMatched sub r budget from barred m u → (n ≡ m) × (t ≡ u)
  matched-once n m t u a b = elim (three n m) [
    | inl l ↦ absurd ((b.leftmost n a.start.0 l).none_allowed t a.first_by_priority.allowed)
    | inr x ↦ elim x [
      | inl e ↦ (e, go m e u b)
      | inr l ↦ absurd ((a.leftmost m b.start.0 l).none_allowed u b.first_by_priority.allowed)
    ]
  ]
    where
      go : (m : ℕ) → n ≡ m → (u : State) → SearchMatched sub r budget from barred m u → t ≡ u
      go m e u b =
          let c : SearchMatched sub r budget from barred n u = rw e b in
          elim (a.first_by_priority.first u c.first_by_priority.allowed) [
            | inl q ↦ q
            | inr x ↦ elim (c.first_by_priority.first t a.first_by_priority.allowed) [ inl q ↦ sym q | inr y ↦ absurd (not-both x y) ]
          ]

  pub matched-not-exhausted : (n m : ℕ) (t : State) → SearchMatched sub r budget from barred n t → SearchExhausted sub r budget from barred m → ⊥
  matched-not-exhausted n m t a b = elim (three n m) [
    | inl l ↦ (b.first_such n a.start.0 l).none_allowed t a.first_by_priority.allowed
    | inr x ↦ elim x [
      | inl e ↦ (let h = a.in_time in a.first_by_priority.allowed.not_barred (rw (← e) at (b.no_end h.0 t h.1 (rw e at h.2))))
      | inr l ↦ omega (arith, (a.leftmost m b.start.0 l).ends_within, b.needs)
    ]
  ]

  pub matched-not-nothing : (n : ℕ) (t : State) → SearchMatched sub r budget from barred n t → SearchNotMatched sub r budget from barred → ⊥
  matched-not-nothing n t a b = (b n a.start).none_allowed t a.first_by_priority.allowed

  pub exhausted-not-nothing : (n : ℕ) → SearchExhausted sub r budget from barred n → SearchNotMatched sub r budget from barred → ⊥
  exhausted-not-nothing n a b = omega (arith, a.needs, (b n a.start).ends_within)

  pub exhausted-once : (n m : ℕ) → SearchExhausted sub r budget from barred n → SearchExhausted sub r budget from barred m → n ≡ m
  exhausted-once n m a b = elim (three n m) [
    | inl l ↦ absurd (omega (arith, a.needs, (b.first_such n a.start.0 l).ends_within))
    | inr x ↦ elim x [ inl e ↦ e | inr l ↦ absurd (omega (arith, b.needs, (a.first_such m b.start.0 l).ends_within)) ]
  ]

-- The match is the search from 0, with nothing barred
pub answer-is-search : (sub : List ℕ) (r : Rule) (budget : ℕ) → search_from sub r budget 0 false ≡ answer sub r budget
unfolding search_from answer tries runs run
answer-is-search sub r budget = let e : length sub - 0 ≡ length sub = omega arith in rw (barring-none 0 (trace sub r 0), e)
