-- Successive matches meet their demands: by induction on the searches, each of which leaves fewer tries (`tries-fewer`). So their number never runs out.
use Rattle.std.specs.Prelude.{◌≡◌, List, [], ◌∷◌, ◌⊎◌, Bool, true, length, eqb}
use Rattle.std.proofs.Math.Path.{refl, ap, sym}
use Rattle.std.proofs.Common.{◌∙◌, arith}
use Rattle.std.proofs.Math.Logic.{inl, inr}
use Rattle.std.proofs.Math.Bool.{false}
use Prim.Native.Nat.{ℕ, zero, suc, ◌+◌, ◌-◌, ◌*◌, ◌≤◌, ◌<◌}
use borrow.Author.Tests.{eqb-true, eqb-false, eq-eqb}
use Rattle.syntax.specs.Tree.{Rule}
use Rattle.semantics.specs.States.{State, starting, Row, row}
use Rattle.semantics.specs.Derivations.{Derivation}
use Rattle.semantics.specs.Walk.{trace, Reaches}
use Rattle.semantics.specs.Answers.{Outcome, matched, not_matched, exhausted, Answer, complete, full, exhausted_at, Listing}
use Rattle.semantics.specs.Scans.{is_empty, search_from, row_then, on_from, tries_left, scan_from, scan}
use Rattle.semantics.specs.Demands.{In, Reading}
use Rattle.semantics.specs.ScanDemands.{row_start, row_end, empty_row, steps_between, SearchMatched, SearchExhausted, SearchNotMatched, Finds, Successive, ScansFrom, ScanDemand}
use Rattle.semantics.proofs.Laws.Cases.{clash, bool, same_or}
use Rattle.semantics.proofs.Laws.Walk.{right}
use Rattle.semantics.proofs.Laws.Matches.{same_place}
use Rattle.semantics.proofs.Laws.Searches.{IsMatched, IsExhausted, IsNotMatched, search-view, matched-once, matched-not-exhausted, matched-not-nothing, exhausted-not-nothing, exhausted-once}

-- A match goes on, or is empty where nothing was barred ------------------------------

forward : (sub : List ℕ) (r : Rule) (n : ℕ) (t : State) → n ≤ length sub → Derivation sub r n t → (n ≤ t.at) × (t.at ≤ length sub)
unfolding starting
forward sub r n t s d = let x = (right sub r (starting n) s).reach t d in (x.up, x.inside)

left-barred : (sub : List ℕ) (from : ℕ) → tries_left sub from true ≡ 2 * (length sub - from) + 1
unfolding tries_left
left-barred sub from = refl

left-free : (sub : List ℕ) (from : ℕ) → tries_left sub from false ≡ 2 * (length sub - from) + 2
unfolding tries_left
left-free sub from = refl

pub some_left : (sub : List ℕ) (from : ℕ) (barred : Bool) → length sub - from < tries_left sub from barred
some_left sub from true = omega (arith, left-barred sub from)
some_left sub from false = omega (arith, left-free sub from)

module _ (sub : List ℕ) (r : Rule) (budget from : ℕ) (barred : Bool) (n : ℕ) (t : State) (m : SearchMatched sub r budget from barred n t) where
  abbrev onward : (n ≤ t.at) × (t.at ≤ length sub)
  onward = forward sub r n t m.start.1 m.first_by_priority.allowed.derives

  goes_on : barred ≡ true → n ≡ from → from < t.at
  goes_on b e = elim (same_or t.at from) [ inl f ↦ absurd (m.first_by_priority.allowed.not_barred (b, e, f)) | inr f ↦ omega (arith, onward.0) ]

  -- the tries of a search that finds a match, and those that are left behind it, are no more than there were
  pub tries-fewer : suc (n - from) + tries_left sub t.at (is_empty n t) ≤ tries_left sub from barred
  unfolding is_empty
  tries-fewer = elim (bool (eqb n t.at)) [
    | inl e ↦ elim (bool barred) [
      | inl b ↦ elim (same_or n from) [
        | inl f ↦ absurd (omega (arith, goes_on b f, eqb-true n t.at e))
        | inr f ↦ rw (e, b) (omega (arith, m.start, onward, eqb-true n t.at e, left-barred sub t.at, left-barred sub from))
      ]
      | inr b ↦ rw (e, b) (omega (arith, m.start, onward, eqb-true n t.at e, left-barred sub t.at, left-free sub from))
    ]
    | inr e ↦
        let l : n < t.at = elim (same_or n t.at) [ inl f ↦ absurd (eqb-false n t.at e f) | inr f ↦ omega (arith, onward.0) ] in
        elim (bool barred) [
          | inl b ↦ rw (e, b) (omega (arith, m.start, onward, left-free sub t.at, left-barred sub from))
          | inr b ↦ rw (e, b) (omega (arith, m.start, onward, left-free sub t.at, left-free sub from))
        ]
  ]

-- Rows that are found -----------------------------------------------------------------

-- the numbers of a row that a search finds: it goes forward, and is not empty where that is barred
pub record Forward (sub : List ℕ) (from : ℕ) (barred : Bool) (x : Row) : Type 0 where
  pub behind : from ≤ row_start x
  pub on : row_start x ≤ row_end x
  pub inside : row_end x ≤ length sub
  pub allowed : barred ≡ true → from ≡ row_start x → ¬ (empty_row x ≡ true)

module _ (sub : List ℕ) (r : Rule) (budget : ℕ) where
  pub finds-forward : (from : ℕ) (barred : Bool) (x : Row) (steps : ℕ) → Finds sub r budget from barred x steps → Forward sub from barred x
  unfolding row
  finds-forward from barred x steps f =
      let n = f.n in
      let t = f.t in
      let d = forward sub r n t f.found.start.1 f.found.first_by_priority.allowed.derives in
      rw f.is (record {
        behind = f.found.start.0;
        on = d.0;
        inside = d.1;
        allowed = λ b e h. (let g = eqb-true n t.at h in f.found.first_by_priority.allowed.not_barred (b, sym e, sym g ∙ sym e));
      })

  finds-reading : (from : ℕ) (barred : Bool) (x : Row) (steps : ℕ) → Finds sub r budget from barred x steps → Reading sub r x
  finds-reading from barred x steps f = record { n = f.n; t = f.t; start = f.found.start.1; derives = f.found.first_by_priority.allowed.derives; is = f.is }

  -- all rows that the searches find lie behind the place from which they search
  rows-forward : (from : ℕ) (barred : Bool) (rows : List Row) (steps : ℕ) → Successive sub r budget from barred rows steps → (y : Row) → In y rows → Forward sub from barred y
  rows-forward from barred [] steps s y i = absurd i
  rows-forward from barred (x ∷ rows) steps s y (inl e) = rw e at (finds-forward from barred x s.0 s.2)
  rows-forward from barred (x ∷ rows) steps s y (inr i) =
      let f = finds-forward from barred x s.0 s.2 in
      let g = rows-forward (row_end x) (empty_row x) rows s.1 s.3 y i in
      record {
        behind = omega (arith, f.behind, f.on, g.behind);
        on = g.on;
        inside = g.inside;
        allowed = λ b e h. f.allowed b (omega (arith, f.behind, f.on, g.behind)) (eq-eqb (row_start x) (row_end x) (omega (arith, f.behind, f.on, g.behind)));
      }

  -- The demands ---------------------------------------------------------------------------

  -- a row before what is found behind it
  scans-row : (from : ℕ) (barred : Bool) (x : Row) (now limit : ℕ) (l : Listing) → Finds sub r budget from barred x now → ScansFrom sub r budget (row_end x) (empty_row x) limit l → ScansFrom sub r budget from barred (suc limit) (row_then x now l)
  unfolding row_then
  scans-row from barred x now limit l f d = record {
    spent = now + d.spent;
    successive = (now, d.spent, f, d.successive, refl);
    rows_fit = omega (arith, d.rows_fit);
    readings = λ y i. elim i [ inl e ↦ rw e at (finds-reading from barred x now f) | inr j ↦ d.readings y j ];
    in_turn = (λ y i. (let g = rows-forward (row_end x) (empty_row x) l.rows d.spent d.successive y i in record { behind = g.behind; not_both_empty = λ z. g.allowed z.0 z.2 z.1 }), d.in_turn);
    exhausted_exactly = d.exhausted_exactly;
    full_exactly = d.full_exactly;
    full_rows = λ e. ap suc (d.full_rows e);
    complete_exactly = d.complete_exactly;
    steps_exhausted = λ n e. omega (arith, d.steps_exhausted n e);
    steps_full = λ y last e g. omega (arith, d.steps_full y last e g);
    steps_complete = λ e. omega (arith, d.steps_complete e);
  }

  -- a search that finds no row ends it
  module _ (from : ℕ) (barred : Bool) (limit : ℕ) where
    scans-nothing : SearchNotMatched sub r budget from barred → ScansFrom sub r budget from barred limit (record { rows = []; ending = complete; steps = steps_between (trace sub r) from (suc (length sub)) })
    scans-nothing h = record {
      spent = 0;
      successive = refl;
      rows_fit = omega arith;
      readings = λ y i. absurd i;
      in_turn = tt;
      exhausted_exactly = λ n. (λ e. absurd (clash (cc)), λ x. absurd (exhausted-not-nothing sub r budget from barred n x h));
      full_exactly = (λ e. absurd (clash (cc)), λ x. absurd (matched-not-nothing sub r budget from barred x.0 x.1 x.2 h));
      full_rows = λ e. absurd (clash (cc));
      complete_exactly = (λ e. h, λ x. refl);
      steps_exhausted = λ n e. absurd (clash (cc));
      steps_full = λ y last e g. absurd (clash (cc));
      steps_complete = λ e. omega arith;
    }

    scans-exhausted : (m : ℕ) → SearchExhausted sub r budget from barred m → ScansFrom sub r budget from barred limit (record { rows = []; ending = exhausted_at m; steps = steps_between (trace sub r) from m + budget })
    scans-exhausted m h = record {
      spent = 0;
      successive = refl;
      rows_fit = omega arith;
      readings = λ y i. absurd i;
      in_turn = tt;
      exhausted_exactly = λ n. (λ e. (let f : m ≡ n = cc in rw f at h), λ x. ap exhausted_at (exhausted-once sub r budget from barred m n h x));
      full_exactly = (λ e. absurd (clash (cc)), λ x. absurd (matched-not-exhausted sub r budget from barred x.0 m x.1 x.2 h));
      full_rows = λ e. absurd (clash (cc));
      complete_exactly = (λ e. absurd (clash (cc)), λ x. absurd (exhausted-not-nothing sub r budget from barred m h x));
      steps_exhausted = λ n e. (let f : m ≡ n = cc in rw f (omega arith));
      steps_full = λ y last e g. absurd (clash (cc));
      steps_complete = λ e. absurd (clash (cc));
    }

  -- one match has one row and one number of steps
  pub finds-once : (from : ℕ) (barred : Bool) (x y : Row) (i j : ℕ) → Finds sub r budget from barred x i → Finds sub r budget from barred y j → (x ≡ y) × (i ≡ j)
  finds-once from barred x y i j f g =
      let q = matched-once sub r budget from barred f.n g.n f.t g.t f.found g.found in
      let h : Reaches (trace sub r g.n) f.j g.t = rw (q.0, q.1) at f.reaches in
      let s = same_place sub r g.n f.j g.j g.t g.found.start.1 h g.reaches in
      (f.is ∙ rw (q.0, q.1) (sym g.is), f.cost ∙ rw (q.0, s) (sym g.cost))

  -- the numbers of a match's row are where it ended and whether it was empty
  as_row : (n : ℕ) (t : State) (limit : ℕ) (l : Listing) → ScansFrom sub r budget t.at (is_empty n t) limit l → ScansFrom sub r budget (row_end (row n t)) (empty_row (row n t)) limit l
  unfolding row is_empty
  as_row n t limit l d = d

  scans-full : (from : ℕ) (barred : Bool) (x : Row) (now : ℕ) → Finds sub r budget from barred x now → ScansFrom sub r budget from barred 0 (record { rows = []; ending = full; steps = now })
  scans-full from barred x now f = record {
    spent = 0;
    successive = refl;
    rows_fit = omega arith;
    readings = λ y i. absurd i;
    in_turn = tt;
    exhausted_exactly = λ n. (λ e. absurd (clash (cc)), λ h. absurd (matched-not-exhausted sub r budget from barred f.n n f.t f.found h));
    full_exactly = (λ e. (f.n, f.t, f.found), λ h. refl);
    full_rows = λ e. refl;
    complete_exactly = (λ e. absurd (clash (cc)), λ h. absurd (matched-not-nothing sub r budget from barred f.n f.t f.found h));
    steps_exhausted = λ n e. absurd (clash (cc));
    steps_full = λ y last e g. omega (arith, (finds-once from barred x y now last f g).1);
    steps_complete = λ e. absurd (clash (cc));
  }

  -- what comes of a search's answer, if what it goes on to is right
  module _ (go_on : (room from : ℕ) (barred : Bool) → Listing) (from : ℕ) (barred : Bool) (a : Answer) where
    abbrev GoesOn : Type 0
    GoesOn = (n : ℕ) (t : State) → SearchMatched sub r budget from barred n t → (room : ℕ) → ScansFrom sub r budget t.at (is_empty n t) room (go_on room t.at (is_empty n t))

    view-finds : (v : IsMatched sub r budget from barred a) → Finds sub r budget from barred (row v.n v.t) (steps_between (trace sub r) from v.n + suc v.j)
    view-finds v = record { n = v.n; t = v.t; found = v.when; is = refl; j = v.j; reaches = v.reaches; cost = refl }

    scans-matched : (room : ℕ) → GoesOn → IsMatched sub r budget from barred a → ScansFrom sub r budget from barred room (on_from go_on room a.outcome a.steps)
    unfolding on_from
    scans-matched zero g v = rw v.is (scans-full from barred (row v.n v.t) (steps_between (trace sub r) from v.n + suc v.j) (view-finds v))
    scans-matched (suc room) g v = rw v.is (scans-row from barred (row v.n v.t) (steps_between (trace sub r) from v.n + suc v.j) room (go_on room v.t.at (is_empty v.n v.t)) (view-finds v) (as_row v.n v.t room (go_on room v.t.at (is_empty v.n v.t)) (g v.n v.t v.when room)))

    scans-on : (room : ℕ) → GoesOn → IsMatched sub r budget from barred a ⊎ (IsExhausted sub r budget from barred a ⊎ IsNotMatched sub r budget from barred a) → ScansFrom sub r budget from barred room (on_from go_on room a.outcome a.steps)
    unfolding on_from
    scans-on room g (inl v) = scans-matched room g v
    scans-on room g (inr (inl v)) = rw v.is (scans-exhausted from barred room v.n v.when)
    scans-on room g (inr (inr v)) = rw v.is (scans-nothing from barred room v.when)

  scans-from : (f room from : ℕ) (barred : Bool) → from ≤ length sub → tries_left sub from barred ≤ f → ScansFrom sub r budget from barred room (scan_from sub r budget f room from barred)
  unfolding scan_from
  scans-from zero room from barred inside a = absurd (omega (arith, some_left sub from barred))
  scans-from (suc f) room from barred inside a = scans-on (scan_from sub r budget f) from barred (search_from sub r budget from barred) room (λ n t m k. (
      let h = tries-fewer sub r budget from barred n t m in
      scans-from f k t.at (is_empty n t) (forward sub r n t m.start.1 m.first_by_priority.allowed.derives).1 (omega arith))) (search-view sub r budget from barred inside)

  pub scan-demand : (limit : ℕ) → ScanDemand sub r budget limit (scan sub r budget limit)
  unfolding scan
  scan-demand limit = scans-from (tries_left sub 0 false) limit 0 false (omega arith) (omega arith)

-- The number of searches never runs out ---------------------------------------------

on_same : (g h : (room from : ℕ) (barred : Bool) → Listing) (room : ℕ) (o : Outcome) (steps : ℕ) → ((n : ℕ) (t : State) → o ≡ matched n t → (k : ℕ) → g k t.at (is_empty n t) ≡ h k t.at (is_empty n t)) → on_from g room o steps ≡ on_from h room o steps
unfolding on_from
on_same g h room not_matched steps f = refl
on_same g h room (exhausted n) steps f = refl
on_same g h zero (matched n t) steps f = refl
on_same g h (suc room) (matched n t) steps f = rw (f n t refl room)

module _ (sub : List ℕ) (r : Rule) (budget : ℕ) where
  -- what a search finds
  search-finds : (from : ℕ) (barred : Bool) (n : ℕ) (t : State) → from ≤ length sub → (search_from sub r budget from barred).outcome ≡ matched n t → SearchMatched sub r budget from barred n t
  search-finds from barred n t inside e = elim (search-view sub r budget from barred inside) [
    | inl v ↦ (let q : matched v.n v.t ≡ matched n t = sym (ap (λ (a : Answer). a.outcome) v.is) ∙ e in let f : v.n ≡ n = cc in let g : v.t ≡ t = cc in rw (f, g) at v.when)
    | inr x ↦ elim x [
      | inl v ↦ absurd (clash (cc (ap (λ (a : Answer). a.outcome) v.is, e)))
      | inr v ↦ absurd (clash (cc (ap (λ (a : Answer). a.outcome) v.is, e)))
    ]
  ]

  -- behind a match there are fewer tries left
  pub search-fewer : (from : ℕ) (barred : Bool) (n : ℕ) (t : State) → from ≤ length sub → (search_from sub r budget from barred).outcome ≡ matched n t → (t.at ≤ length sub) × (tries_left sub t.at (is_empty n t) < tries_left sub from barred)
  search-fewer from barred n t inside e =
      let m = search-finds from barred n t inside e in
      ((forward sub r n t m.start.1 m.first_by_priority.allowed.derives).1, omega (arith, tries-fewer sub r budget from barred n t m))

  enough-alike : (f g room from : ℕ) (barred : Bool) → from ≤ length sub → tries_left sub from barred ≤ f → tries_left sub from barred ≤ g → scan_from sub r budget f room from barred ≡ scan_from sub r budget g room from barred
  unfolding scan_from
  enough-alike zero g room from barred inside a b = absurd (omega (arith, some_left sub from barred))
  enough-alike (suc f) zero room from barred inside a b = absurd (omega (arith, some_left sub from barred))
  enough-alike (suc f) (suc g) room from barred inside a b = on_same (scan_from sub r budget f) (scan_from sub r budget g) room _ _ (λ n t e k. (
      let h = search-fewer from barred n t inside e in
      enough-alike f g k t.at (is_empty n t) h.0 (omega arith) (omega arith)))

  -- a scan from a search on
  unfoldable pub scan_on : (room from : ℕ) (barred : Bool) → Listing
  scan_on room from barred = scan_from sub r budget (tries_left sub from barred) room from barred

  -- the equation in which no number of searches is seen
  pub scan-goes_on : (room from : ℕ) (barred : Bool) → from ≤ length sub → scan_on room from barred ≡ on_from scan_on room (search_from sub r budget from barred).outcome (search_from sub r budget from barred).steps
  unfolding scan_on scan_from
  scan-goes_on room from barred inside = step (tries_left sub from barred) refl
    where
      step : (f : ℕ) → f ≡ tries_left sub from barred → scan_from sub r budget f room from barred ≡ on_from scan_on room (search_from sub r budget from barred).outcome (search_from sub r budget from barred).steps
      step zero e = absurd (omega (arith, some_left sub from barred))
      step (suc f) e = on_same (scan_from sub r budget f) scan_on room _ _ (λ n t q k. (
          let h = search-fewer from barred n t inside q in
          enough-alike f (tries_left sub t.at (is_empty n t)) k t.at (is_empty n t) h.0 (omega arith) (omega arith)))

  pub scan-is : (room : ℕ) → scan sub r budget room ≡ scan_on room 0 false
  unfolding scan scan_on
  scan-is room = refl
