-- What is kept of the walk from one start, and what the code keeps of it, as the failure that it means.
use Rattle.std.specs.Prelude as option
use Rattle.std.specs.Prelude.{List, [], ◌∷◌, Bool, true, ◌&&◌, None, Some, ℕ, zero, suc, ltb, if◌then◌else◌}
use Rattle.std.proofs.Math.Option.{Option, none, some}
use Rattle.syntax.specs.Limits.{unset}
use Rattle.semantics.specs.Explanations.{Failure, greater, position}
use Rattle.plain.specs.declared.Miss.{Miss}
use Rattle.plain.specs.declared.Told.{Told}
use Rattle.plain.specs.declared.Told.TheVariants.{Item, Refuted}

abbrev pub failing : (start at place : ℕ) → Failure
failing start at place = record { start = start; at = at; place = place }

-- Within one start, the furthest failure and the closest attempt are the same one. No position is 4294967295.
unfoldable pub better : (start : ℕ) → Option Failure → (place at : ℕ) → Option Failure
better start x place at = if ltb at unset then greater position x (failing start at place) else x

-- whether one tried here would take its place
unfoldable pub would_lead : Option Failure → (at : ℕ) → Bool
would_lead none at = true
would_lead (some y) at = ltb y.at at

-- The note of a `(?!`: 0 if it would not take its place, else one more than where it was entered.
unfoldable pub note_of : Option Failure → (at : ℕ) → ℕ
note_of x at = if ltb at unset && would_lead x at then suc at else 0

-- It takes its place then, unless a later one is greater. Of those that are equal it was the first.
unfoldable pub settled : (start note place : ℕ) → Option Failure → Option Failure
settled start zero place y = y
settled start (suc at) place none = some (failing start at place)
settled start (suc at) place (some y) = some (if ltb at y.at then y else failing start at place)

-- As the code keeps it --------------------------------------------------------------

unfoldable pub kept_of : (start : ℕ) → option.Option Miss → Option Failure
kept_of start None = none
kept_of start (Some k) = some (failing start k.at k.place)

unfoldable pub listed : Option Failure → List Failure
listed none = []
listed (some x) = x ∷ []

-- after a move that told this
unfoldable pub better_if : (start : ℕ) → Option Failure → option.Option Miss → Option Failure
better_if start x None = x
better_if start x (Some r) = better start x r.place r.at

-- at once, or by a note
unfoldable pub kept_by : (start : ℕ) → Option Failure → Told → Option Failure
kept_by start x (Item r) = better_if start x r
kept_by start x (Refuted r) = settled start r.note r.place x
