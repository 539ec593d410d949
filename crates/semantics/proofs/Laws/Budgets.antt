-- A larger budget only lengthens a run that stopped at the budget: by induction on the starts and the steps. So what is made of a run, an answer, a listing
-- or one search after another, is the same, or the one at the smaller budget is exhausted: by induction on what was met, and on the searches.
use Rattle.std.specs.Prelude.{◌≡◌, List, [], ◌∷◌, ◌++◌, Bool, length}
use Rattle.std.proofs.Math.Path.{refl}
use Rattle.std.proofs.Common.{ap, arith}
use Rattle.std.proofs.Math.Logic.{inl, inr}
use Rattle.std.proofs.Math.Bool.{false}
use Prim.Native.Nat.{ℕ, zero, suc, ◌-◌, ◌≤◌}
use Rattle.syntax.specs.Tree.{Rule}
use Rattle.semantics.specs.States.{Row, row}
use Rattle.semantics.specs.Walk.{Trace, trace}
use Rattle.semantics.specs.Runs.{Moment, plain, ends, Stop, beyond, Run, moment, meets, spend, run, runs}
use Rattle.semantics.specs.Answers.{Outcome, matched, not_matched, exhausted, unmatched, one_step_more, first, answer, fresh, Listing, unfilled, plainly, with_row, fill, listing}
use Rattle.semantics.specs.Scans.{is_empty, barring, tries, search_from, row_then, on_from, tries_left, scan_from, scan}
use Rattle.semantics.specs.Budgets.{Lengthens, AnswerStays, ListingStays}
use Rattle.semantics.proofs.Laws.Newness.{seen_after, fresh-append}

-- Runs --------------------------------------------------------------------------

spend-longer : (n b c : ℕ) (es : Trace) (x y : Run) → b ≤ c → Lengthens x y → Lengthens (spend n b es x) (spend n c es y)
unfolding spend meets
spend-longer n b c [] x y h g = g
spend-longer n zero c (e ∷ es) x y h g = inr (record { start = n; stopped = refl; later = (spend n c (e ∷ es) y).met; met = refl })
spend-longer n (suc b) zero (e ∷ es) x y h g = absurd (omega arith)
spend-longer n (suc b) (suc c) (e ∷ es) x y h g = elim (spend-longer n b c es x y (omega arith) g) [
  | inl z ↦ inl (rw z)
  | inr z ↦ inr (record { start = z.start; stopped = z.stopped; later = z.later; met = ap (λ (l : List Moment). moment n e ∷ l) z.met })
]

run-longer : (b c : ℕ) (w : ℕ → Trace) (n k : ℕ) → b ≤ c → Lengthens (run b w n k) (run c w n k)
unfolding run
run-longer b c w n zero h = inl refl
run-longer b c w n (suc k) h = spend-longer n b c (w n) (run b w (suc n) k) (run c w (suc n) k) h (run-longer b c w (suc n) k h)

-- What is made of a run ---------------------------------------------------------

first-cut : (ms later : List Moment) (start : ℕ) (stop : Stop) → AnswerStays (first ms (beyond start)) (first (ms ++ later) stop)
unfolding first one_step_more unmatched
first-cut [] later start stop = inr (start, refl)
first-cut (plain ∷ ms) later start stop = elim (first-cut ms later start stop) [ inl e ↦ inl (ap one_step_more e) | inr z ↦ inr z ]
first-cut (ends n t ∷ ms) later start stop = inl refl

first-stays : (x y : Run) → Lengthens x y → AnswerStays (first x.met x.stop) (first y.met y.stop)
first-stays x y (inl e) = inl (rw e)
first-stays x y (inr g) = rw (g.stopped, g.met) (first-cut x.met g.later g.start y.stop)

fill-cut : (room : ℕ) (ms later : List Moment) (start : ℕ) (stop : Stop) → ListingStays (fill room ms (beyond start)) (fill room (ms ++ later) stop)
unfolding fill plainly with_row unfilled
fill-cut room [] later start stop = inr (record { start = start; stopped = refl; later = (fill room later stop).rows; rows = refl })
fill-cut room (plain ∷ ms) later start stop = elim (fill-cut room ms later start stop) [
  | inl e ↦ inl (ap plainly e)
  | inr z ↦ inr (record { start = z.start; stopped = z.stopped; later = z.later; rows = z.rows })
]
fill-cut zero (ends n t ∷ ms) later start stop = inl refl
fill-cut (suc room) (ends n t ∷ ms) later start stop = elim (fill-cut room ms later start stop) [
  | inl e ↦ inl (ap (with_row (row n t)) e)
  | inr z ↦ inr (record { start = z.start; stopped = z.stopped; later = z.later; rows = ap (λ (l : List Row). row n t ∷ l) z.rows })
]

fill-stays : (room : ℕ) (x y : Run) → Lengthens x y → ListingStays (fill room (fresh [] x.met) x.stop) (fill room (fresh [] y.met) y.stop)
fill-stays room x y (inl e) = inl (rw e)
fill-stays room x y (inr g) = rw (g.stopped, g.met) (rw (fresh-append [] x.met g.later) (fill-cut room (fresh [] x.met) (fresh (seen_after [] x.met) g.later) g.start y.stop))

-- what comes of a search's outcome, if what it goes on to stays
on-stays : (f g : (room from : ℕ) (barred : Bool) → Listing) → ((room from : ℕ) (barred : Bool) → ListingStays (f room from barred) (g room from barred)) → (room : ℕ) (o : Outcome) (steps : ℕ) → ListingStays (on_from f room o steps) (on_from g room o steps)
unfolding on_from row_then
on-stays f g h room not_matched steps = inl refl
on-stays f g h room (exhausted n) steps = inl refl
on-stays f g h zero (matched n t) steps = inl refl
on-stays f g h (suc room) (matched n t) steps = elim (h room t.at (is_empty n t)) [
  | inl e ↦ inl (ap (row_then (row n t) steps) e)
  | inr z ↦ inr (record { start = z.start; stopped = z.stopped; later = z.later; rows = ap (λ (l : List Row). row n t ∷ l) z.rows })
]

-- and what comes of one that is exhausted, before any other
on-cut : (f : (room from : ℕ) (barred : Bool) → Listing) (room : ℕ) (o : Outcome) (steps start : ℕ) → o ≡ exhausted start → (l : Listing) → ListingStays (on_from f room o steps) l
unfolding on_from
on-cut f room o steps start e l = rw e (inr (record { start = start; stopped = refl; later = l.rows; rows = refl }))

-- Of a rule on a subject ----------------------------------------------------------

module _ (sub : List ℕ) (r : Rule) (b c : ℕ) (larger : b ≤ c) where
  pub answer-stays : AnswerStays (answer sub r b) (answer sub r c)
  unfolding answer runs
  answer-stays = first-stays (runs sub r b) (runs sub r c) (run-longer b c (trace sub r) 0 (suc (length sub)) larger)

  pub listing-stays : (room : ℕ) → ListingStays (listing sub r b room) (listing sub r c room)
  unfolding listing runs
  listing-stays room = fill-stays room (runs sub r b) (runs sub r c) (run-longer b c (trace sub r) 0 (suc (length sub)) larger)

  search-stays : (from : ℕ) (barred : Bool) → AnswerStays (search_from sub r b from barred) (search_from sub r c from barred)
  unfolding search_from tries
  search-stays from barred =
      let on : (budget : ℕ) → Run = λ budget. run budget (trace sub r) (suc from) (length sub - from) in
      first-stays (tries sub r b from barred) (tries sub r c from barred) (spend-longer from b c (barring barred from (trace sub r from)) (on b) (on c) larger (run-longer b c (trace sub r) (suc from) (length sub - from) larger))

  searches-stay : (searches room from : ℕ) (barred : Bool) → ListingStays (scan_from sub r b searches room from barred) (scan_from sub r c searches room from barred)
  unfolding scan_from
  searches-stay zero room from barred = inl refl
  searches-stay (suc searches) room from barred =
      let a = search_from sub r b from barred in
      elim (search-stays from barred) [
        | inl e ↦ rw e (on-stays (scan_from sub r b searches) (scan_from sub r c searches) (searches-stay searches) room a.outcome a.steps)
        | inr z ↦ on-cut (scan_from sub r b searches) room a.outcome a.steps z.0 z.1 (scan_from sub r c (suc searches) room from barred)
      ]

  pub scan-stays : (room : ℕ) → ListingStays (scan sub r b room) (scan sub r c room)
  unfolding scan
  scan-stays room = searches-stay (tries_left sub 0 false) room 0 false
