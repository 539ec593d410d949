-- Successive matches. 02, request g): "as Perl's `/g` gives them: each search starts where the last match ended, and after an empty match the next
-- one may not be empty at that same place."
-- docs/REFERENCE.md, 16.4
use Rattle.std.specs.Prelude.{List, [], ◌∷◌, Bool, false, ◌&&◌, ℕ, zero, suc, ◌+◌, ◌-◌, ◌*◌, length, eqb, if◌then◌else◌}
use Rattle.syntax.specs.Tree.{Rule}
use Rattle.semantics.specs.States.{State, Row, row}
use Rattle.semantics.specs.Walk.{step, miss, end, Trace, trace}
use Rattle.semantics.specs.Runs.{Run, spend, run}
use Rattle.semantics.specs.Answers.{Outcome, matched, not_matched, exhausted, Answer, first, complete, full, exhausted_at, Listing}

-- A try: the walk from a start, with the empty end barred there or not --------------

-- a match from a start to the state t is empty
unfoldable pub is_empty : (start : ℕ) → State → Bool
is_empty start t = eqb start t.at

-- "a barred end costs its step and the walk goes on": it counts as a plain step
unfoldable pub barring : (barred : Bool) (start : ℕ) → Trace → Trace
barring barred start [] = []
barring barred start (step ∷ es) = step ∷ barring barred start es
barring barred start (miss place at ∷ es) = miss place at ∷ barring barred start es
barring barred start (end t ∷ es) = (if barred && is_empty start t then step else end t) ∷ barring barred start es

-- A search: the tries of the starts from one on, only the first of them barred ----------

-- "Here a start may be tried twice, once with the empty end barred .. The budget holds afresh for each try"
unfoldable pub tries : List ℕ → Rule → (budget from : ℕ) (barred : Bool) → Run
tries sub r budget from barred = spend from budget (barring barred from (trace sub r from)) (run budget (trace sub r) (suc from) (length sub - from))

unfoldable pub search_from : List ℕ → Rule → (budget from : ℕ) (barred : Bool) → Answer
search_from sub r budget from barred = let x = tries sub r budget from barred in first x.met x.stop

-- A scan: one search after another ------------------------------------------------------

-- a row and the steps of its search, before what comes after it
unfoldable pub row_then : Row → ℕ → Listing → Listing
row_then x steps l = record { rows = x ∷ l.rows; ending = l.ending; steps = steps + l.steps }

-- What comes of a search's outcome, with room for so many rows: "A call that needs a match goes on only from a matched answer." It goes on where the
-- match ended, and the empty end is barred there if the match was empty; where there is no row left for the match, it ends "full", "that step counted".
unfoldable pub on_from : (go_on : (room from : ℕ) (barred : Bool) → Listing) (room : ℕ) → Outcome → (steps : ℕ) → Listing
on_from go_on room not_matched steps = record { rows = []; ending = complete; steps = steps }
on_from go_on room (exhausted start) steps = record { rows = []; ending = exhausted_at start; steps = steps }
on_from go_on zero (matched start t) steps = record { rows = []; ending = full; steps = steps }
on_from go_on (suc room) (matched start t) steps = row_then (row start t) steps (go_on room t.at (is_empty start t))

-- how many tries there can be yet: two for each start, but one where the empty end is barred
unfoldable pub tries_left : List ℕ → (from : ℕ) (barred : Bool) → ℕ
tries_left sub from barred = 2 * (length sub - from) + (if barred then 1 else 2)

module _ (sub : List ℕ) (r : Rule) (budget : ℕ) where
  -- so many searches at most
  unfoldable pub scan_from : (searches room from : ℕ) (barred : Bool) → Listing
  scan_from zero room from barred = record { rows = []; ending = complete; steps = 0 }
  scan_from (suc searches) room from barred = let a = search_from sub r budget from barred in on_from (scan_from searches) room a.outcome a.steps

  -- With room for so many rows. Each search has a try at least, so that their number never runs out (Laws.Scans, `scan-goes_on`).
  unfoldable pub scan : (room : ℕ) → Listing
  scan room = scan_from (tries_left sub 0 false) room 0 false
