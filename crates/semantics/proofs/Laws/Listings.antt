-- Demand 3: a listing has the readings of one place, that of its cut or the one behind all walks. Three cases, and no two of them meet:
-- a full place has as many readings as there is room for, and a later place more.
use Rattle.std.specs.Prelude.{◌≡◌, ◌⊎◌, ◌↔◌}
use Rattle.std.proofs.Math.Path.{ap}
use Rattle.std.proofs.Common.{sym, ◌∙◌, subst, arith}
use mathlib.Core.List.{List, [], ◌∷◌}
use Rattle.std.proofs.Math.Logic.{inl, inr}
use Prim.Native.Nat.{ℕ, suc, ◌+◌, ◌≤◌, ◌<◌}
use Rattle.std.proofs.Math.ListN.{length}
use Rattle.syntax.specs.Tree.{Rule}
use Rattle.semantics.specs.States.{row}
use Rattle.semantics.specs.Walk.{trace}
use Rattle.semantics.specs.Runs.{Moment, finished, beyond, runs}
use Rattle.semantics.specs.Answers.{fresh, Ending, complete, full, exhausted_at, Listing, unfilled, listing}
use Rattle.semantics.specs.Demands.{In, Earlier, steps_before, ReachedBefore, FullAt, CutByBudget, CutByRoom, Demand3}
use Rattle.semantics.proofs.Laws.Cases.{clash, three}
use Rattle.semantics.proofs.Laws.Members.{distinct-fit}
use Rattle.semantics.proofs.Laws.Places.{earlier-trans, earlier-or, upto-length, reaches-below, upto-place}
use Rattle.semantics.proofs.Laws.Runs.{Point}
use Rattle.semantics.proofs.Laws.Newness.{new-not, rows_of, seen_after, in-seen_after}
use Rattle.semantics.proofs.Laws.Views.{fill-view}
use Rattle.semantics.proofs.Laws.Matches.{point, at-start}
use Rattle.semantics.proofs.Laws.Readings.{readings, reached-met, readings-are, InRuns, readings-in-order, order-once, every, readings-first}

module _ (sub : List ℕ) (r : Rule) (budget room : ℕ) where
  -- at a later place there are more readings than room
  full-before : (n j m k : ℕ) → FullAt sub r budget room n j → Earlier n j m k → room < length (readings sub r m k)
  full-before n j m k f e =
      let h = distinct-fit (row n f.t ∷ f.taken) (readings sub r m k) (λ i. f.new ((f.taken_are (row n f.t)).0 i), f.taken_once) (λ x i. elim i [
        | inl q ↦ (readings-are sub r m k x).1 (record { m = n; k = j; t = f.t; earlier = e; reaches = f.reaches; is = sym q })
        | inr l ↦ (let b = (f.taken_are x).0 l in (readings-are sub r m k x).1 (record { m = b.m; k = b.k; t = b.t; earlier = earlier-trans b.m b.k n j m k b.earlier e; reaches = b.reaches; is = b.is }))
      ]) in
      omega (arith, f.taken_all)

  full_size : (n j : ℕ) → FullAt sub r budget room n j → length (readings sub r n j) ≤ room
  full_size n j f =
      let h = distinct-fit (readings sub r n j) f.taken (order-once sub r (readings sub r n j) (readings-in-order sub r n j (inl f.start))) (λ x i. (f.taken_are x).1 ((readings-are sub r n j x).0 i)) in
      omega (arith, f.taken_all)

  cut-once : (n j m k : ℕ) → CutByRoom sub r budget room n j → CutByRoom sub r budget room m k → (n ≡ m) × (j ≡ k)
  cut-once n j m k a b = elim (earlier-or n j m k) [
    | inl e ↦ absurd (omega (arith, full-before n j m k a.full_at e, full_size m k b.full_at))
    | inr x ↦ elim x [ inl q ↦ q | inr e ↦ absurd (omega (arith, full-before m k n j b.full_at e, full_size n j a.full_at)) ]
  ]

  -- the cases
  record IsFull (l : Listing) : Type 0 where
    n : ℕ
    k : ℕ
    cut : CutByRoom sub r budget room n k
    rows : l.rows ≡ readings sub r n k
    ending : l.ending ≡ full
    count : length (readings sub r n k) ≡ room
    cost : l.steps ≡ steps_before (trace sub r) n + suc k

  record IsFit (l : Listing) : Type 0 where
    few : length (readings sub r (point sub r budget).m (point sub r budget).j) ≤ room
    rows : l.rows ≡ readings sub r (point sub r budget).m (point sub r budget).j
    ending : l.ending ≡ unfilled (runs sub r budget).stop
    cost : l.steps ≡ steps_before (trace sub r) (point sub r budget).m + (point sub r budget).j

  listing-view : IsFit (listing sub r budget room) ⊎ IsFull (listing sub r budget room)
  unfolding listing readings
  listing-view =
      let x = runs sub r budget in
      let o : Point budget (trace sub r) (suc (length sub)) x = point sub r budget in
      elim (fill-view room [] x.met x.stop) [
        | inl v ↦ inl (record {
          few = rw (← o.met) v.few;
          rows = ap (λ (l : Listing). l.rows) v.is ∙ ap (λ (ms : List Moment). rows_of (fresh [] ms)) o.met;
          ending = ap (λ (l : Listing). l.ending) v.is;
          cost = ap (λ (l : Listing). l.steps) v.is ∙ ap length o.met ∙ upto-length (trace sub r) o.m o.j o.inside;
        })
        | inr v ↦
            let z = upto-place (trace sub r) o.m o.j v.p v.q v.n v.t (sym o.met ∙ v.at) in
            let h = z.0 in
            let g = at-start sub r budget v.n h.k v.t z.1 h.reaches in
            inr (record {
              n = v.n;
              k = h.k;
              cut = record {
                full_at = record {
                  start = g.0;
                  t = v.t;
                  reaches = h.reaches;
                  new = λ b. new-not (row v.n v.t) (seen_after [] v.p) v.new (in-seen_after (row v.n v.t) [] v.p (inr (rw h.past (reached-met sub r v.n h.k (row v.n v.t) b))));
                  taken = readings sub r v.n h.k;
                  taken_once = order-once sub r (readings sub r v.n h.k) (readings-in-order sub r v.n h.k (inl g.0));
                  taken_are = readings-are sub r v.n h.k;
                  taken_all = rw (← h.past) v.taken;
                };
                within = g.2;
                not_exhausted_before = λ m l. o.within m (omega (arith, g.1));
              };
              rows = ap (λ (l : Listing). l.rows) v.is ∙ ap (λ (ms : List Moment). rows_of (fresh [] ms)) h.past;
              ending = ap (λ (l : Listing). l.ending) v.is;
              count = rw (← h.past) v.taken;
              cost = ap (λ (l : Listing). l.steps) v.is ∙ ap suc (ap length h.past ∙ upto-length (trace sub r) v.n h.k (omega (arith, reaches-below (trace sub r v.n) h.k v.t h.reaches))) ∙ omega arith;
            })
      ]

  abbrev Said : Ending → Type 0
  Said e = (listing sub r budget room).ending ≡ e

  point-in-runs : InRuns sub r (point sub r budget).m (point sub r budget).j
  point-in-runs = elim (point sub r budget).why [ inl y ↦ inr (y.0, y.1) | inr y ↦ inl (omega (arith, y.0)) ]

  -- a full place lies within a run that its readings fit
  not_full : IsFit (listing sub r budget room) → (n j : ℕ) → FullAt sub r budget room n j → ¬ Earlier n j (point sub r budget).m (point sub r budget).j
  not_full v n j f e = omega (arith, full-before n j (point sub r budget).m (point sub r budget).j f e, v.few)

  not-cut : IsFit (listing sub r budget room) → (n j : ℕ) → ¬ CutByRoom sub r budget room n j
  not-cut v n j w =
      let o = point sub r budget in
      not_full v n j w.full_at (elim o.why [
        | inl y ↦ inl (omega (arith, y.0, w.full_at.start))
        | inr y ↦ elim (three n o.m) [
          | inl l ↦ inl l
          | inr x ↦ elim x [ inl e ↦ inr (e, omega (arith, y.1, w.within)) | inr l ↦ absurd (omega (arith, y.2, w.not_exhausted_before o.m l)) ]
        ]
      ])

  when_full : IsFull (listing sub r budget room) → Demand3 sub r budget room (listing sub r budget room)
  when_full v =
      let s = v.cut.full_at.start in
      let o = readings-in-order sub r v.n v.k (inl s) in
      record {
        one_order = rw v.rows o;
        each_once = rw v.rows (order-once sub r (readings sub r v.n v.k) o);
        cut_by_budget = λ n. (
          λ e. absurd (clash (cc (v.ending, e))),
          λ w. absurd (elim (three v.n n) [
            | inl l ↦ w.not_full_before v.n v.k (inl l) v.cut.full_at
            | inr x ↦ elim x [ inl e ↦ w.not_full_before v.n v.k (inr (e, v.cut.within)) v.cut.full_at | inr l ↦ omega (arith, w.overruns, v.cut.not_exhausted_before n l) ]
          ]),
        );
        cut_by_room = (λ e. (v.n, v.k, v.cut), λ w. v.ending);
        otherwise_complete = (λ e. absurd (clash (cc (v.ending, e))), λ w. absurd (w.1 v.n v.k v.cut.full_at));
        complete_rows = λ e. absurd (clash (cc (v.ending, e)));
        first_of_order = λ x y i d j. readings-first sub r v.n v.k (inl s) x y (rw v.rows at i) d (λ h. j (rw v.rows h));
        rows_before_budget = λ n e. absurd (clash (cc (v.ending, e)));
        rows_before_room = λ n j w x. (let q = cut-once v.n v.k n j v.cut w in rw (v.rows, ← q.0, ← q.1) (readings-are sub r v.n v.k x));
        rows_fit = rw v.rows (omega (arith, v.count));
        full_rows = λ e. rw v.rows v.count;
        steps_complete = λ e. absurd (clash (cc (v.ending, e)));
        steps_exhausted = λ n e. absurd (clash (cc (v.ending, e)));
        steps_full = λ n j w. (let q = cut-once v.n v.k n j v.cut w in rw (← q.0, ← q.1) v.cost);
      }

  when_complete : IsFit (listing sub r budget room) → (let o = point sub r budget in (o.m ≡ suc (length sub)) × (o.j ≡ 0) × ((runs sub r budget).stop ≡ finished)) → Demand3 sub r budget room (listing sub r budget room)
  unfolding unfilled
  when_complete v y =
      let m = (point sub r budget).m in
      let j = (point sub r budget).j in
      let o = readings-in-order sub r m j point-in-runs in
      let end : Said complete = v.ending ∙ ap unfilled y.2 in
      record {
        one_order = rw v.rows o;
        each_once = rw v.rows (order-once sub r (readings sub r m j) o);
        cut_by_budget = λ n. (λ e. absurd (clash (cc (end, e))), λ w. absurd (omega (arith, w.overruns, (point sub r budget).within n (omega (arith, y.0, w.start)))));
        cut_by_room = (λ e. absurd (clash (cc (end, e))), λ w. absurd (not-cut v w.0 w.1 w.2));
        otherwise_complete = (λ e. (λ n s. (point sub r budget).within n (omega (arith, y.0)), λ n k f. not_full v n k f (inl (omega (arith, y.0, f.start)))), λ w. end);
        complete_rows = λ e x. rw v.rows (rw (y.0, y.1) (every sub r x));
        first_of_order = λ x z i d h. readings-first sub r m j point-in-runs x z (rw v.rows at i) d (λ g. h (rw v.rows g));
        rows_before_budget = λ n e. absurd (clash (cc (end, e)));
        rows_before_room = λ n k w. absurd (not-cut v n k w);
        rows_fit = rw v.rows v.few;
        full_rows = λ e. absurd (clash (cc (end, e)));
        steps_complete = λ e. v.cost ∙ rw (y.0, y.1) (omega arith);
        steps_exhausted = λ n e. absurd (clash (cc (end, e)));
        steps_full = λ n k w. absurd (not-cut v n k w);
      }

  when_exhausted : IsFit (listing sub r budget room) → (let o = point sub r budget in (o.m < suc (length sub)) × (o.j ≡ budget) × (budget < length (trace sub r o.m)) × ((runs sub r budget).stop ≡ beyond o.m)) → Demand3 sub r budget room (listing sub r budget room)
  unfolding unfilled
  when_exhausted v y =
      let m = (point sub r budget).m in
      let j = (point sub r budget).j in
      let o = readings-in-order sub r m j point-in-runs in
      let end : Said (exhausted_at m) = v.ending ∙ ap unfilled y.3 in
      let cut : CutByBudget sub r budget room m = record { start = omega (arith, y.0); overruns = y.2; first_such = (point sub r budget).within; not_full_before = λ n k e f. not_full v n k f (rw y.1 e) } in
      record {
        one_order = rw v.rows o;
        each_once = rw v.rows (order-once sub r (readings sub r m j) o);
        cut_by_budget = λ n. (
          λ e. (let f : m ≡ n = cc (end, e) in rw f at cut),
          λ w. end ∙ ap exhausted_at (elim (three m n) [
            | inl l ↦ absurd (omega (arith, y.2, w.first_such m l))
            | inr x ↦ elim x [ inl e ↦ e | inr l ↦ absurd (omega (arith, w.overruns, (point sub r budget).within n l)) ]
          ]),
        );
        cut_by_room = (λ e. absurd (clash (cc (end, e))), λ w. absurd (not-cut v w.0 w.1 w.2));
        otherwise_complete = (λ e. absurd (clash (cc (end, e))), λ w. absurd (omega (arith, y.2, w.0 m cut.start)));
        complete_rows = λ e. absurd (clash (cc (end, e)));
        first_of_order = λ x z i d h. readings-first sub r m j point-in-runs x z (rw v.rows at i) d (λ g. h (rw v.rows g));
        rows_before_budget = λ n e x. (let f : m ≡ n = cc (end, e) in rw (v.rows, ← f) (subst (λ (k : ℕ). In x (readings sub r m j) ↔ ReachedBefore sub r m k x) y.1 (readings-are sub r m j x)));
        rows_before_room = λ n k w. absurd (not-cut v n k w);
        rows_fit = rw v.rows v.few;
        full_rows = λ e. absurd (clash (cc (end, e)));
        steps_complete = λ e. absurd (clash (cc (end, e)));
        steps_exhausted = λ n e. (let f : m ≡ n = cc (end, e) in v.cost ∙ rw (f, y.1));
        steps_full = λ n k w. absurd (not-cut v n k w);
      }

  pub demand_3 : Demand3 sub r budget room (listing sub r budget room)
  demand_3 = elim listing-view [
    | inl v ↦ elim (point sub r budget).why [ inl y ↦ when_complete v y | inr y ↦ when_exhausted v y ]
    | inr v ↦ when_full v
  ]
