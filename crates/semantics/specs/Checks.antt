-- The call that checks a proposed reading, 02's request m): "The office proposes a reading, the box checks it."
-- docs/REFERENCE.md, 16.10
use Rattle.std.specs.Prelude.{List, [], ℕ}
use Rattle.std.proofs.Math.Option.{Option, none, some}
use Rattle.syntax.specs.declared.Reason.{Reason}
use Rattle.syntax.specs.Limits.{row_length}
use Rattle.syntax.specs.Tree.{Rule}
use Rattle.syntax.specs.Checkable.{uncheckable}
use Rattle.semantics.specs.States.{row}
use Rattle.semantics.specs.Calls.{Call, Return, declined, leaving, call}
use Rattle.semantics.specs.Proposals.{Finding, a_reading, no_reading, exhausts, check}

pub data CheckOutcome : Type 0 where
  check_reading : ℕ → CheckOutcome  -- the steps
  check_no_reading : ℕ → CheckOutcome  -- the steps
  check_exhausted : ℕ → ℕ → CheckOutcome  -- the start and the steps
  check_refused : ℕ → Reason → CheckOutcome  -- the place and the reason

-- It "then gives its reading"; "no reading" comes "with no row".
unfoldable pub check_returns : Call → Finding → (steps : ℕ) → Return CheckOutcome
check_returns c (a_reading start t) steps = leaving (check_reading steps) (row start t) c
check_returns c no_reading steps = leaving (check_no_reading steps) [] c
check_returns c (exhausts start) steps = leaving (check_exhausted start steps) [] c

-- "After the rule's own refusals, 35 is given for l)'s forms .., then 36": a refused call leaves the index unchanged, and both areas zeroed
unfoldable pub unless_uncheckable : (proposal : List ℕ) → Call → Rule → Option (ℕ × Reason) → Return CheckOutcome
unless_uncheckable proposal c r (some f) = declined (check_refused f.0 f.1) c
unless_uncheckable proposal c r none = let a = check c.subject r c.budget proposal in check_returns c a.finding a.steps

unfoldable pub check_rule : (proposal : List ℕ) → Call → Rule → Return CheckOutcome
check_rule proposal c r = unless_uncheckable proposal c r (uncheckable r)

-- a row and a name index are lent, as for a match
unfoldable pub check_call : (proposal : List ℕ) → Call → Return CheckOutcome
check_call proposal c = call check_refused row_length (check_rule proposal) c
