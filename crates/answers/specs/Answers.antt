-- An outcome as the six numbers that `include/terravisco.h` names, and an explanation as eleven.
-- docs/REFERENCE.md, 18.2
use Rattle.std.specs.Prelude.{List, [], ◌∷◌, ◌++◌, ℕ}
use Rattle.syntax.specs.declared.Reason.{Reason}
use Rattle.syntax.specs.Refusals.{number_of}
use Rattle.semantics.specs.Explanations.{Failure, nowhere}
use Rattle.semantics.specs.Calls.{MatchOutcome, match_matched, match_not_matched, match_exhausted, match_refused, ListOutcome, list_complete, list_full, list_exhausted, list_refused, ExplainOutcome, explain_fits, explain_unfit, explain_exhausted, explain_refused}
use Rattle.semantics.specs.Batches.{low, high, BatchOutcome, batch_done, batch_refused}
use Rattle.semantics.specs.Checks.{CheckOutcome, check_reading, check_no_reading, check_exhausted, check_refused}

-- "[0] kind, [1] exhausted start or refusal number, else 0, [2] refusal's place, else 0, [3] steps' low 32 bits, [4] their high 32 bits,
-- [5] rows written"
unfoldable pub numbers : (kind which place steps rows : ℕ) → List ℕ
numbers kind which place steps rows = kind ∷ which ∷ place ∷ low steps ∷ high steps ∷ low rows ∷ []

-- "3 refused. Steps are 0 if refused."
unfoldable pub refusal_numbers : (place : ℕ) → Reason → List ℕ
refusal_numbers place why = numbers 3 (number_of why) place 0 0

-- "Kind of a match: 0 matched, 1 not matched, 2 exhausted, 3 refused."
unfoldable pub match_numbers : MatchOutcome → List ℕ
match_numbers (match_matched steps) = numbers 0 0 0 steps 1
match_numbers (match_not_matched steps) = numbers 1 0 0 steps 0
match_numbers (match_exhausted start steps) = numbers 2 start 0 steps 0
match_numbers (match_refused place why) = refusal_numbers place why

-- "Kind of a listing: 0 complete, 1 full, 2 exhausted, 3 refused."
unfoldable pub list_numbers : ListOutcome → List ℕ
list_numbers (list_complete rows steps) = numbers 0 0 0 steps rows
list_numbers (list_full rows steps) = numbers 1 0 0 steps rows
list_numbers (list_exhausted start rows steps) = numbers 2 start 0 steps rows
list_numbers (list_refused place why) = refusal_numbers place why

-- "Kind of a day's lines: 0 done, 3 refused", with the lines in the place of rows, and no steps
unfoldable pub batch_numbers : BatchOutcome → List ℕ
batch_numbers (batch_done lines) = numbers 0 0 0 0 lines
batch_numbers (batch_refused place why) = refusal_numbers place why

-- "Kind of a check: 0 a reading, 1 no reading, 2 exhausted, 3 refused."
unfoldable pub check_numbers : CheckOutcome → List ℕ
check_numbers (check_reading steps) = numbers 0 0 0 steps 1
check_numbers (check_no_reading steps) = numbers 1 0 0 steps 0
check_numbers (check_exhausted start steps) = numbers 2 start 0 steps 0
check_numbers (check_refused place why) = refusal_numbers place why

-- "[6] place in the line, [7] place in the rule; [8] to [10] the closest attempt: its start, its place in the line, its place in the rule"
unfoldable pub failure_numbers : (far near : Failure) → List ℕ
failure_numbers far near = far.at ∷ far.place ∷ near.start ∷ near.at ∷ near.place ∷ []

-- the kinds of a match, no rows, and these places of a line that is not matched, else 0
unfoldable pub explain_numbers : ExplainOutcome → List ℕ
explain_numbers (explain_fits steps) = numbers 0 0 0 steps 0 ++ failure_numbers nowhere nowhere
explain_numbers (explain_unfit steps far near) = numbers 1 0 0 steps 0 ++ failure_numbers far near
explain_numbers (explain_exhausted start steps) = numbers 2 start 0 steps 0 ++ failure_numbers nowhere nowhere
explain_numbers (explain_refused place why) = refusal_numbers place why ++ failure_numbers nowhere nowhere
