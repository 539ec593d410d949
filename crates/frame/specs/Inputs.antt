-- What calls share: the inputs as they stand in the code's arguments, that a call's return is the one that is defined, and what an inside is lent, which
-- may be a part of a text.
-- docs/REFERENCE.md, 16.1, 18.4
use Rattle.std.specs.Prelude.{◌≡◌, List, ℕ, ◌-◌, ◌≤◌, length, take, drop}
use Rattle.syntax.specs.Limits.{subject_limit, budget_limit, rule_area_need}
use Rattle.syntax.specs.Tree.{Rule}
use Rattle.semantics.specs.Calls.{Call, Return, work_area_need}
use Rattle.machine.specs.Theorem.{Stands}

abbrev pub call_of : (rule : List ℕ) (flags : ℕ) (subject : List ℕ) (budget : ℕ) (rule_area work_area result_area names : List ℕ) → Call
call_of rule flags subject budget rule_area work_area result_area names = record {
  rule = rule;
  flags = flags;
  subject = subject;
  budget = budget;
  rule_area = rule_area;
  work_area = work_area;
  result_area = result_area;
  names = names;
}

-- the answer, and what stands in the areas and in the name index, are those of a return
pub record Returned {A : Type 0} (is : Return A) (told : A) (rule_area work_area result_area names : List ℕ) : Type 0 where
  pub outcome_is : told ≡ is.outcome
  pub rule_area_is : rule_area ≡ is.rule_area
  pub work_area_is : work_area ≡ is.work_area
  pub result_area_is : result_area ≡ is.result_area
  pub names_is : names ≡ is.names

-- of an inside: its answer and its rows
pub record Told {A : Type 0} (is : Return A) (told : A) (result_area : List ℕ) : Type 0 where
  pub outcome_is : told ≡ is.outcome
  pub result_area_is : result_area ≡ is.result_area

-- the part of a text from one position up to another
abbrev pub between : (text : List ℕ) (from to : ℕ) → List ℕ
between text from to = take (to - from) (drop from text)

-- a rule stands compiled, held for an inside, and the line and the work area are as a call that is accepted has them
pub record Held (code subject work : List ℕ) (entry budget : ℕ) : Type 0 where
  pub tree : Rule
  pub stands : Stands code tree entry
  pub code_size : length code ≡ rule_area_need
  pub subject_fits : length subject ≤ subject_limit
  pub work_fits : work_area_need budget ≤ length work
  pub budget_fits : budget ≤ budget_limit
