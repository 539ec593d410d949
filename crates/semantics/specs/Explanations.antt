-- Why a line does not fit. 02, request f): "the greatest place in the line at which the walk tried an item that failed, and the place in the rule
-- of the first such item tried there, in walk order over all starts"; and the closest attempt, which is our own addition (docs/DECISIONS.md).
-- docs/REFERENCE.md, 16.5
use Rattle.std.specs.Prelude.{List, [], ◌∷◌, ◌++◌, ℕ, zero, suc, ◌-◌, length, replicate, set, eqb, ltb, if◌then◌else◌}
use Rattle.std.proofs.Math.Option.{Option, none, some}
use Rattle.syntax.specs.Tree.{Rule}
use Rattle.semantics.specs.Walk.{Trace, step, miss, end, trace}

-- an item that failed: the start of the attempt, where in the line it was tried, and its place in the rule
pub record Failure : Type 0 where
  pub start : ℕ
  pub at : ℕ
  pub place : ℕ

-- those of the walk from a start, in its order
unfoldable pub failed : (start : ℕ) → Trace → List Failure
failed start [] = []
failed start (step ∷ es) = failed start es
failed start (miss place at ∷ es) = record { start = start; at = at; place = place } ∷ failed start es
failed start (end t ∷ es) = failed start es

-- those of the walks from so many starts on
unfoldable pub failed_from : (walk_from : ℕ → Trace) (start many : ℕ) → List Failure
failed_from walk_from start zero = []
failed_from walk_from start (suc many) = failed start (walk_from start) ++ failed_from walk_from (suc start) many

-- "in walk order over all starts"
unfoldable pub failures : List ℕ → Rule → List Failure
failures sub r = failed_from (trace sub r) 0 (suc (length sub))

-- Of all failures the first that is greatest by a measure -----------------------------

module _ (by : Failure → ℕ) where
  -- the greater of what was met before, if anything was, and the next one: of two that are equal, the earlier
  unfoldable pub greater : Option Failure → Failure → Option Failure
  greater none y = some y
  greater (some x) y = some (if ltb (by x) (by y) then y else x)

  unfoldable pub greatest : Option Failure → List Failure → Option Failure
  greatest best [] = best
  greatest best (x ∷ l) = greatest (greater best x) l

-- what is told where nothing failed
unfoldable pub nowhere : Failure
nowhere = record { start = 0; at = 0; place = 0 }

unfoldable pub or_nowhere : Option Failure → Failure
or_nowhere none = nowhere
or_nowhere (some x) = x

abbrev pub position : Failure → ℕ
position x = x.at

-- "the greatest place in the line .. and the place in the rule of the first such item tried there"
unfoldable pub furthest : List Failure → Failure
furthest l = or_nowhere (greatest position none l)

-- how far an attempt had come when the item failed
abbrev pub reach : Failure → ℕ
reach x = x.at - x.start

-- the closest attempt: "the first with the greatest distance from its start to where it was tried"
unfoldable pub closest : List Failure → Failure
closest l = or_nowhere (greatest reach none l)

-- The marks: for each byte of the rule 1 where an item begins that failed there in that attempt, else 0 ----

-- the places of those that failed at a position
unfoldable pub places_at : (at : ℕ) → List Failure → List ℕ
places_at at [] = []
places_at at (x ∷ l) = if eqb x.at at then x.place ∷ places_at at l else places_at at l

unfoldable pub marked : (places bytes : List ℕ) → List ℕ
marked [] bytes = bytes
marked (place ∷ places) bytes = marked places (set bytes place 1)

-- as many of them as there is room for
unfoldable pub marks : List ℕ → Rule → Failure → (many : ℕ) → List ℕ
marks sub r x many = marked (places_at x.at (failed x.start (trace sub r x.start))) (replicate many 0)
