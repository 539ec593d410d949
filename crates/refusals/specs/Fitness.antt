-- What is answered on whether a call is acceptable.
-- docs/REFERENCE.md, 10.2
use Rattle.std.specs.Prelude.{◌≡◌, Bool, ℕ, Result, Ok, Err, ⊤, length, ltb}
use Rattle.std.proofs.Math.Option.{Option, none, some}
use Rattle.syntax.specs.declared.Reason.{Reason}
use Rattle.semantics.specs.Calls.{Call}

-- the reason that an answer names
unfoldable pub fitness_of : Result ⊤ Reason → Option Reason
fitness_of (Ok _) = none
fitness_of (Err why) = some why

-- what of a call it is accepted or refused by, where so many numbers are needed in its result area
pub record Sized (need : ℕ) (c : Call) (rule flags subject budget rule_area work_area : ℕ) (short : Bool) (names : ℕ) : Type 0 where
  pub rule_is : length c.rule ≡ rule
  pub flags_is : c.flags ≡ flags
  pub subject_is : length c.subject ≡ subject
  pub budget_is : c.budget ≡ budget
  pub rule_area_is : length c.rule_area ≡ rule_area
  pub work_area_is : length c.work_area ≡ work_area
  pub short_is : ltb (length c.result_area) need ≡ short
  pub names_is : length c.names ≡ names
