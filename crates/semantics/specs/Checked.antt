-- A call and what it gives, from the rule's bytes: what the lists of examples are made of.
-- docs/REFERENCE.md, 16
use Rattle.std.specs.Prelude.{List, ◌∷◌, ◌++◌, ℕ, ◌-◌, ◌*◌, length, take, replicate}
use Prim.Native.String.{String}
use Rattle.syntax.specs.Limits.{rule_area_need, unset, spans_length, row_length, name_index_need}
use Rattle.syntax.specs.Read.{bytes}
use Rattle.semantics.specs.States.{Row}
use Rattle.semantics.specs.Explanations.{Failure}
use Rattle.semantics.specs.Calls.{Call, work_area_need, MatchOutcome, match_call, ListOutcome, list_call, scan_call, joined, ExplainOutcome, explain_call}
use Rattle.semantics.specs.Checks.{CheckOutcome, check_call}
use Rattle.semantics.specs.Batches.{BatchOutcome, batch_call}
use Rattle.semantics.specs.Computing.{computing_calls}

-- a rule, flags, a subject and a budget, with areas just large enough, and so many numbers to write the result into
unfoldable pub lending : String → ℕ → String → ℕ → ℕ → Call
lending rule flags subject budget many = record {
  rule = bytes rule;
  flags = flags;
  subject = bytes subject;
  budget = budget;
  rule_area = replicate rule_area_need 7;
  work_area = replicate (work_area_need budget) 7;
  result_area = replicate many 7;
  names = replicate name_index_need 7;
}

-- a row: start, end and the spans of the groups that the rule has
unfoldable pub row_of : ℕ → ℕ → List ℕ → Row
row_of start stop spans = start ∷ stop ∷ spans ++ replicate (spans_length - length spans) unset

pub data Checked : Type 0 where
  -- rule, flags, subject, budget; the outcome and the rows written
  matching : String → ℕ → String → ℕ → MatchOutcome → List Row → Checked
  -- the same, with the rows that there is room for; of all readings, and of successive matches
  listing : String → ℕ → String → ℕ → ℕ → ListOutcome → List Row → Checked
  scanning : String → ℕ → String → ℕ → ℕ → ListOutcome → List Row → Checked
  -- the same; the outcome, and all the bytes that are lent for marks, which held 7 before
  explaining : String → ℕ → String → ℕ → ExplainOutcome → List ℕ → Checked
  -- rule, flags, subject, budget and the bytes that are proposed; the outcome and the rows written
  checking : String → ℕ → String → ℕ → List ℕ → CheckOutcome → List Row → Checked
  -- the same, with a buffer; the outcome, and all the numbers of the result area, which held 7 before
  batching : String → ℕ → String → ℕ → BatchOutcome → List ℕ → Checked

-- a failure: the attempt's start, where in the line it was, and the item's place in the rule
unfoldable pub missed : ℕ → ℕ → ℕ → Failure
missed start at place = record { start = start; at = at; place = place }

-- a row of 7s, which nothing is written into
unfoldable pub no_row : Row
no_row = replicate row_length 7

-- an outcome, and the first numbers of the result area
pub data Gives : Type 0 where
  matches : MatchOutcome → List ℕ → Gives
  lists : ListOutcome → List ℕ → Gives
  explains : ExplainOutcome → List ℕ → Gives
  checks : CheckOutcome → List ℕ → Gives
  batches : BatchOutcome → List ℕ → Gives

unfoldable pub calls : Checked → Gives
calls (matching rule flags subject budget outcome rows) =
    let after = match_call (lending rule flags subject budget row_length) in
    matches after.outcome (take (length (joined rows)) after.result_area)
calls (listing rule flags subject budget limit outcome rows) =
    let after = list_call (lending rule flags subject budget (limit * row_length)) in
    lists after.outcome (take (length (joined rows)) after.result_area)
calls (scanning rule flags subject budget limit outcome rows) =
    let after = scan_call (lending rule flags subject budget (limit * row_length)) in
    lists after.outcome (take (length (joined rows)) after.result_area)
calls (explaining rule flags subject budget outcome marks) =
    let after = explain_call (lending rule flags subject budget (length marks)) in
    explains after.outcome after.result_area
calls (checking rule flags subject budget proposal outcome rows) =
    let after = check_call proposal (lending rule flags subject budget row_length) in
    checks after.outcome (take (length (joined rows)) after.result_area)
calls (batching rule flags buffer budget outcome numbers) =
    let after = batch_call (lending rule flags buffer budget (length numbers)) in
    batches after.outcome after.result_area

unfoldable pub expected : Checked → Gives
expected (matching rule flags subject budget outcome rows) = matches outcome (joined rows)
expected (listing rule flags subject budget limit outcome rows) = lists outcome (joined rows)
expected (scanning rule flags subject budget limit outcome rows) = lists outcome (joined rows)
expected (explaining rule flags subject budget outcome marks) = explains outcome marks
expected (checking rule flags subject budget proposal outcome rows) = checks outcome (joined rows)
expected (batching rule flags buffer budget outcome numbers) = batches outcome numbers

unfoldable pub computing_checks : Unit {0}
unfolding computing_calls lending row_of missed no_row calls expected
computing_checks = tt
