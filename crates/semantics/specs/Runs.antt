-- All that the walks meet, one start after another, as far as the budget lets them.
-- docs/REFERENCE.md, 14.3
use Rattle.std.specs.Prelude.{List, [], ◌∷◌, ℕ, zero, suc, length}
use Rattle.syntax.specs.Tree.{Rule}
use Rattle.semantics.specs.States.{State}
use Rattle.semantics.specs.Walk.{Event, step, miss, end, Trace, trace}

-- one step
pub data Moment : Type 0 where
  plain : Moment
  ends : ℕ → State → Moment  -- the walk from a start reaches the rule's end

pub data Stop : Type 0 where
  finished : Stop  -- every walk ended within the budget
  beyond : ℕ → Stop  -- the walk from a start needs a step beyond the budget

pub record Run : Type 0 where
  pub met : List Moment
  pub stop : Stop

unfoldable pub moment : ℕ → Event → Moment
moment start step = plain
moment start (miss place at) = plain
moment start (end t) = ends start t

unfoldable pub meets : Moment → Run → Run
meets m x = record { met = m ∷ x.met; stop = x.stop }

-- The walk from a start, with so many steps of its budget left, and then what comes after it. "A walk is exhausted when it needs a step
-- and has used its budget", which "ends the whole call".
unfoldable pub spend : ℕ → ℕ → Trace → Run → Run
spend start budget [] later = later
spend start zero (e ∷ es) later = record { met = []; stop = beyond start }
spend start (suc budget) (e ∷ es) later = meets (moment start e) (spend start budget es later)

-- the walks from so many starts, the first of them given: "The budget holds afresh at each start"
unfoldable pub run : ℕ → (ℕ → Trace) → ℕ → ℕ → Run
run budget walk_from start zero = record { met = []; stop = finished }
run budget walk_from start (suc n) = spend start budget (walk_from start) (run budget walk_from (suc start) n)

-- the starts are "0 to the subject's length"
unfoldable pub runs : List ℕ → Rule → ℕ → Run
runs sub r budget = run budget (trace sub r) 0 (suc (length sub))
