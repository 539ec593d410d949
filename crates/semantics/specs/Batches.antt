-- A day's lines in one call. 02, request h): "One call takes one rule, a buffer of lines split at 0A and a result area with one row and one outcome a
-- line." What stands for a line is made from the match of that line: "It equals one call after another."
-- docs/REFERENCE.md, 16.6
use Rattle.std.specs.Prelude.{List, [], ◌∷◌, ◌++◌, Bool, true, false, ℕ, ◌*◌, ◌/◌, ◌%◌, ◌^◌, length, take, drop}
use Rattle.syntax.specs.declared.Reason.{Reason}
use Rattle.syntax.specs.Limits.{row_length, part_length}
use Rattle.syntax.specs.Refusals.{number_of}
use Rattle.syntax.specs.Tree.{Rule}
use Rattle.semantics.specs.Assertions.{is_newline}
use Rattle.semantics.specs.Calls.{Call, Return, leaving, call, MatchOutcome, match_matched, match_not_matched, match_exhausted, match_refused, match_call}

-- The lines of a buffer ---------------------------------------------------------

-- A byte before these lines: an 0A ends an empty line, and any other begins the first of them. Where there is none, it is a last piece.
unfoldable pub before : (newline : Bool) → ℕ → List (List ℕ) → List (List ℕ)
before true b lines = [] ∷ lines
before false b [] = (b ∷ []) ∷ []
before false b (line ∷ lines) = (b ∷ line) ∷ lines

-- "split at 0A", and "A last piece without 0A counts if not empty"
unfoldable pub lines_of : (buffer : List ℕ) → List (List ℕ)
lines_of [] = []
lines_of (b ∷ s) = before (is_newline b) b (lines_of s)

-- What stands for a line --------------------------------------------------------

-- one line's call: the same rule, flags, budget and areas, with a row to write the result into
abbrev pub line_call : Call → (line results : List ℕ) → Call
line_call c line results = record {
  rule = c.rule;
  flags = c.flags;
  subject = line;
  budget = c.budget;
  rule_area = c.rule_area;
  work_area = c.work_area;
  result_area = results;
  names = c.names;
}

-- "low and high 32 bits"
unfoldable pub low : ℕ → ℕ
low n = n % (2 ^ 32)

unfoldable pub high : ℕ → ℕ
high n = n / (2 ^ 32)

-- "four numbers: 0 matched, 1 not, 2 exhausted, 3 refused; the exhausted start or the reason, else 0; the steps' low and high 32 bits, 0 if refused"
unfoldable pub outcome_numbers : MatchOutcome → List ℕ
outcome_numbers (match_matched steps) = 0 ∷ 0 ∷ low steps ∷ high steps ∷ []
outcome_numbers (match_not_matched steps) = 1 ∷ 0 ∷ low steps ∷ high steps ∷ []
outcome_numbers (match_exhausted start steps) = 2 ∷ start ∷ low steps ∷ high steps ∷ []
outcome_numbers (match_refused place why) = 3 ∷ number_of why ∷ 0 ∷ 0 ∷ []

unfoldable pub told : Return MatchOutcome → List ℕ
told x = x.result_area ++ outcome_numbers x.outcome

-- "A line's part of the area is its row, unchanged unless matched, then four numbers": the row is the first of what stands there
unfoldable pub part_of : Call → (line there : List ℕ) → List ℕ
part_of c line there = told (match_call (line_call c line (take row_length there)))

-- the parts of lines, one after another, and the area that they are written over
unfoldable pub parts : Call → (lines : List (List ℕ)) (area : List ℕ) → List ℕ
parts c [] area = []
parts c (line ∷ lines) area = part_of c line area ++ parts c lines (drop part_length area)

-- The call ------------------------------------------------------------------------

pub data BatchOutcome : Type 0 where
  batch_done : ℕ → BatchOutcome  -- the number of lines
  batch_refused : ℕ → Reason → BatchOutcome  -- the place and the reason

-- "A line over 65,535 bytes gets refusal 2 in its own outcome and the others go on": for the call itself no line counts
abbrev pub lineless : Call → Call
lineless c = line_call c [] c.result_area

-- "7 is given here only if lines outnumber parts": the numbers that so many parts have
unfoldable pub parts_need : List (List ℕ) → ℕ
parts_need lines = length lines * part_length

unfoldable pub batch_rule : List (List ℕ) → Call → Rule → Return BatchOutcome
batch_rule lines c r = leaving (batch_done (length lines)) (parts c lines c.result_area) c

-- the buffer is the subject: "any other refusal refuses the whole call"
unfoldable pub batch_call : Call → Return BatchOutcome
batch_call c = let lines = lines_of c.subject in call batch_refused (parts_need lines) (batch_rule lines) (lineless c)
