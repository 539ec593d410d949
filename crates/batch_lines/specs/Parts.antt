-- What stands for the lines of a rule that stands compiled: each line's part, made from what a match of that line alone returns.
-- docs/REFERENCE.md, 16.6, 18.4
use Rattle.std.specs.Prelude.{◌≡◌, List, [], ◌∷◌, ◌++◌, ℕ, length, take, drop, ltb, if◌then◌else◌}
use Rattle.syntax.specs.declared.Reason.TheVariants.{SubjectTooLong}
use Rattle.syntax.specs.Limits.{subject_limit, row_length, part_length}
use Rattle.syntax.specs.Tree.{Rule}
use Rattle.semantics.specs.Calls.{Call, Return, untouched, MatchOutcome, match_refused, match_rule}
use Rattle.semantics.specs.Batches.{told}
use Rattle.machine.specs.Theorem.{Stands}
use Rattle.frame.specs.Inputs.{call_of, Told}
use Rattle.finding.specs.declared.Outcome.{Outcome}
use Rattle.finding.specs.Outcomes.{outcome_of}

-- a line's match, of which nothing counts but the line, the budget and the row that may be written
abbrev pub alone : (line : List ℕ) (budget : ℕ) (row : List ℕ) → Call
alone line budget row = call_of [] 0 line budget [] [] row []

-- "A line over 65,535 bytes gets refusal 2 in its own outcome"
unfoldable pub line_return : Rule → (line : List ℕ) (budget : ℕ) (row : List ℕ) → Return MatchOutcome
line_return x line budget row =
    let c = alone line budget row in
    if ltb subject_limit (length line) then untouched (match_refused 0 SubjectTooLong) c
    else match_rule c x

-- "A line's part of the area is its row, unchanged unless matched, then four numbers"
unfoldable pub line_part : Rule → (line : List ℕ) (budget : ℕ) (part : List ℕ) → List ℕ
line_part x line budget part = told (line_return x line budget (take row_length part))

-- an area, once the parts of these lines are written over its first ones
unfoldable pub filled : Rule → (budget : ℕ) → (lines : List (List ℕ)) (area : List ℕ) → List ℕ
filled x budget [] area = area
filled x budget (line ∷ lines) area = line_part x line budget (take part_length area) ++ filled x budget lines (drop part_length area)

-- Of each rule that stands compiled at the entry: the outcome and the row of a line, its part, and the parts of all lines.
abbrev pub Answers : (code line old new : List ℕ) (entry budget : ℕ) → Outcome → Type 0
Answers code line old new entry budget o = (x : Rule) → Stands code x entry → Told (line_return x line budget old) (outcome_of o) new

abbrev pub Tells : (code line old new : List ℕ) (entry budget : ℕ) → Type 0
Tells code line old new entry budget = (x : Rule) → Stands code x entry → new ≡ line_part x line budget old

abbrev pub Fills : (code : List ℕ) (lines : List (List ℕ)) (old new : List ℕ) (entry budget : ℕ) → Type 0
Fills code lines old new entry budget = (x : Rule) → Stands code x entry → new ≡ filled x budget lines old
