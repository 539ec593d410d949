-- 02, request g): "The budget holds afresh for each try, so the bound on reported steps doubles." It follows from the demands alone: each search costs no
-- more than a budget for each of its tries, and there are two tries for each start at most (Laws.Scans, `tries-fewer`).
use Rattle.std.specs.Prelude.{◌≡◌, refl, List, [], ◌∷◌, Bool, false, ℕ, zero, suc, ◌+◌, ◌-◌, ◌*◌, ◌≤◌, ◌<◌, length}
use native.Mathlib.Omega.{arith}
use Rattle.std.proofs.Common.{add-mul, suc-mul, mul_comm, mul_assoc, mul-le-mul_right}
use Rattle.syntax.specs.Tree.{Rule}
use Rattle.semantics.specs.States.{State, Row, row}
use Rattle.semantics.specs.Walk.{Trace, trace}
use Rattle.semantics.specs.Answers.{Ending, complete, full, exhausted_at, Listing}
use Rattle.semantics.specs.Scans.{is_empty, tries_left}
use Rattle.semantics.specs.Demands.{steps_before}
use Rattle.semantics.specs.ScanDemands.{row_end, empty_row, end_behind, empty_behind, steps_between, SearchMatched, Finds, Successive, ScanDemand}
use Rattle.semantics.proofs.Laws.Matches.{same_place}
use Rattle.semantics.proofs.Laws.Scans.{some_left, tries-fewer, finds-forward}

steps-grow : (w : ℕ → Trace) (budget from d : ℕ) → ((i : ℕ) → from ≤ i → i < from + d → length (w i) ≤ budget) → steps_before w (from + d) ≤ steps_before w from + d * budget
unfolding steps_before
steps-grow w budget from zero h = let e : from + 0 ≡ from = omega arith in rw e (omega arith)
steps-grow w budget from (suc d) h =
    let e : from + suc d ≡ suc (from + d) = omega arith in
    rw e (omega (arith, steps-grow w budget from d (λ i l k. h i l (omega arith)), h (from + d) (omega arith) (omega arith), suc-mul d budget))

between-most : (w : ℕ → Trace) (budget from n : ℕ) → from ≤ n → ((i : ℕ) → from ≤ i → i < n → length (w i) ≤ budget) → steps_between w from n ≤ (n - from) * budget
unfolding steps_between
between-most w budget from n l h =
    let e : from + (n - from) ≡ n = omega arith in
    let g : steps_before w n ≤ steps_before w from + (n - from) * budget = rw e at (steps-grow w budget from (n - from) (λ i a b. h i a (omega arith))) in
    omega arith

module _ (sub : List ℕ) (r : Rule) (budget : ℕ) where
  -- a search pays no more than the budget for each of its tries
  finds-most : (from : ℕ) (barred : Bool) (x : Row) (steps : ℕ) (f : Finds sub r budget from barred x steps) → steps ≤ suc (f.n - from) * budget
  finds-most from barred x steps f =
      let m = f.found in
      let s = same_place sub r f.n f.j m.in_time.0 f.t m.start.1 f.reaches m.in_time.2 in
      omega (arith, f.cost, s, m.in_time.1, suc-mul (f.n - from) budget, between-most (trace sub r) budget from f.n m.start.0 (λ i a b. (m.leftmost i a b).ends_within))

  few-tries : (from : ℕ) (barred : Bool) (n : ℕ) → n ≤ length sub → suc (n - from) * budget ≤ tries_left sub from barred * budget
  few-tries from barred n l = mul-le-mul_right budget (omega (arith, some_left sub from barred))

  row-tries : (from : ℕ) (barred : Bool) (x : Row) (n : ℕ) (t : State) → x ≡ row n t → SearchMatched sub r budget from barred n t → suc (n - from) + tries_left sub (row_end x) (empty_row x) ≤ tries_left sub from barred
  unfolding row is_empty
  row-tries from barred x n t e m = rw e (tries-fewer sub r budget from barred n t m)

  -- the last search begins within the line
  end-inside : (from : ℕ) (barred : Bool) (rows : List Row) (steps : ℕ) → from ≤ length sub → Successive sub r budget from barred rows steps → end_behind from rows ≤ length sub
  end-inside from barred [] steps l s = l
  end-inside from barred (x ∷ rows) steps l s = end-inside (row_end x) (empty_row x) rows s.1 (finds-forward sub r budget from barred x s.0 s.2).inside s.3

  -- of the rows that are found, and the tries that are left behind them
  successive-most : (from : ℕ) (barred : Bool) (rows : List Row) (steps : ℕ) → Successive sub r budget from barred rows steps → steps + tries_left sub (end_behind from rows) (empty_behind barred rows) * budget ≤ tries_left sub from barred * budget
  successive-most from barred [] steps s = omega (arith, s)
  successive-most from barred (x ∷ rows) steps s =
      let f = s.2 in
      let left = tries_left sub (row_end x) (empty_row x) in
      let h : (suc (f.n - from) + left) * budget ≤ tries_left sub from barred * budget = mul-le-mul_right budget (row-tries from barred x f.n f.t f.is f.found) in
      omega (arith, s.4, finds-most from barred x s.0 f, h, add-mul (suc (f.n - from)) left budget, successive-most (row_end x) (empty_row x) rows s.1 s.3)

  twice : (steps : ℕ) → steps ≤ tries_left sub 0 false * budget → steps ≤ 2 * (budget * (length sub + 1))
  unfolding tries_left
  twice steps h =
      let e : 2 * (length sub - 0) + 2 ≡ 2 * (length sub + 1) = omega arith in
      let f : steps ≤ 2 * (length sub + 1) * budget = rw e at h in
      rw (mul_comm budget (length sub + 1), ← (mul_assoc 2 (length sub + 1) budget)) f

  pub scan_steps : (limit : ℕ) (l : Listing) → ScanDemand sub r budget limit l → l.steps ≤ 2 * (budget * (length sub + 1))
  scan_steps limit l x = twice l.steps (go l.ending refl)
    where
      from : ℕ
      from = end_behind 0 l.rows

      barred : Bool
      barred = empty_behind false l.rows

      inside : from ≤ length sub
      inside = end-inside 0 false l.rows x.spent (omega arith) x.successive

      found : x.spent + tries_left sub from barred * budget ≤ tries_left sub 0 false * budget
      found = successive-most 0 false l.rows x.spent x.successive

      go : (e : Ending) → l.ending ≡ e → l.steps ≤ tries_left sub 0 false * budget
      go complete e =
          let h = x.complete_exactly.0 e in
          let f : (suc (length sub) - from) * budget ≤ tries_left sub from barred * budget = mul-le-mul_right budget (omega (arith, some_left sub from barred)) in
          omega (arith, x.steps_complete e, found, f, between-most (trace sub r) budget from (suc (length sub)) (omega (arith, inside)) (λ i a b. (h i (a, omega arith)).ends_within))
      go full e =
          let m = x.full_exactly.0 e in
          let f : Finds sub r budget from barred (row m.0 m.1) (steps_between (trace sub r) from m.0 + suc m.2.in_time.0) = record { n = m.0; t = m.1; found = m.2; is = refl; j = m.2.in_time.0; reaches = m.2.in_time.2; cost = refl } in
          omega (arith, x.steps_full (row m.0 m.1) (steps_between (trace sub r) from m.0 + suc m.2.in_time.0) e f, found, finds-most from barred (row m.0 m.1) (steps_between (trace sub r) from m.0 + suc m.2.in_time.0) f, few-tries from barred m.0 m.2.start.1)
      go (exhausted_at n) e =
          let m = (x.exhausted_exactly n).0 e in
          omega (arith, x.steps_exhausted n e, found, suc-mul (n - from) budget, few-tries from barred n m.start.1, between-most (trace sub r) budget from n m.start.0 (λ i a b. (m.first_such i a b).ends_within))
