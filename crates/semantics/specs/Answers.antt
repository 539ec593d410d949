-- What a match and a listing answer for a rule: functions of what the walks meet.
-- docs/REFERENCE.md, 16.2, 16.3
use Rattle.std.specs.Prelude.{List, [], ◌∷◌, Bool, true, false, ◌||◌, ℕ, zero, suc}
use Rattle.syntax.specs.Sets.{same_bytes}
use Rattle.syntax.specs.Tree.{Rule}
use Rattle.semantics.specs.States.{State, Row, row}
use Rattle.semantics.specs.Runs.{Moment, plain, ends, Stop, finished, beyond, runs}

-- A match ------------------------------------------------------------------

-- "There are three answers: matched, not matched, exhausted."
pub data Outcome : Type 0 where
  matched : ℕ → State → Outcome  -- the start, and the state at the end
  not_matched : Outcome
  exhausted : ℕ → Outcome  -- the start

-- "Every answer .. reports its steps, the sum over the starts begun"
pub record Answer : Type 0 where
  pub outcome : Outcome
  pub steps : ℕ

unfoldable pub unmatched : Stop → Outcome
unmatched finished = not_matched
unmatched (beyond start) = exhausted start

unfoldable pub one_step_more : Answer → Answer
one_step_more a = record { outcome = a.outcome; steps = suc a.steps }

-- "A match stops at the first end reached"
unfoldable pub first : List Moment → Stop → Answer
first [] stop = record { outcome = unmatched stop; steps = 0 }
first (plain ∷ ms) stop = one_step_more (first ms stop)
first (ends start t ∷ ms) stop = record { outcome = matched start t; steps = 1 }

-- a rule on a subject, within a budget
unfoldable pub answer : List ℕ → Rule → ℕ → Answer
answer sub r budget = let x = runs sub r budget in first x.met x.stop

-- A listing ----------------------------------------------------------------

-- "A reading is new where its start's walk reaches the rule's end with it for the first time." A row has its start, so that no row of
-- another start is the same.
unfoldable pub known : Row → List Row → Bool
known x [] = false
known x (y ∷ rows) = same_bytes x y || known x rows

unfoldable pub unless : Bool → Moment → Moment
unless true m = plain
unless false m = m

-- an end whose reading has been met before counts as a plain step
unfoldable pub fresh : List Row → List Moment → List Moment
fresh seen [] = []
fresh seen (plain ∷ ms) = plain ∷ fresh seen ms
fresh seen (ends start t ∷ ms) = unless (known (row start t) seen) (ends start t) ∷ fresh (row start t ∷ seen) ms

-- a listing "goes on, and ends complete, full, or exhausted at a named start"
pub data Ending : Type 0 where
  complete full : Ending
  exhausted_at : ℕ → Ending

pub record Listing : Type 0 where
  pub rows : List Row
  pub ending : Ending
  pub steps : ℕ

unfoldable pub unfilled : Stop → Ending
unfilled finished = complete
unfilled (beyond start) = exhausted_at start

unfoldable pub plainly : Listing → Listing
plainly l = record { rows = l.rows; ending = l.ending; steps = suc l.steps }

unfoldable pub with_row : Row → Listing → Listing
with_row x l = record { rows = x ∷ l.rows; ending = l.ending; steps = suc l.steps }

-- "writes one at each end reached whose reading is new ..; on the first new reading with no row left it ends 'full', that step counted"
unfoldable pub fill : ℕ → List Moment → Stop → Listing
fill room [] stop = record { rows = []; ending = unfilled stop; steps = 0 }
fill room (plain ∷ ms) stop = plainly (fill room ms stop)
fill zero (ends start t ∷ ms) stop = record { rows = []; ending = full; steps = 1 }
fill (suc room) (ends start t ∷ ms) stop = with_row (row start t) (fill room ms stop)

-- a rule on a subject, within a budget, with room for so many rows
unfoldable pub listing : List ℕ → Rule → ℕ → ℕ → Listing
listing sub r budget room = let x = runs sub r budget in fill room (fresh [] x.met) x.stop
