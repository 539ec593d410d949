-- What the functions promise.
-- docs/REFERENCE.md, 19.1
use Rattle.std.specs.Prelude.{◌≡◌, Bool, true, false, ◌⊎◌, List, ℕ, ◌≤◌, Result, Ok, Err, length, drop, ltb, if◌then◌else◌}
use Rattle.syntax.specs.declared.Refusal.{Refusal}
use Rattle.syntax.specs.Limits.{rule_area_need, row_length, group_limit}
use Rattle.syntax.specs.Refusals.{number_of}
use Rattle.syntax.specs.Read.{sound, refused}
use Rattle.syntax.specs.Tree.{Rule}
use Rattle.semantics.specs.States.{Row, row}
use Rattle.semantics.specs.Answers.{Outcome, matched, not_matched, exhausted, answer}
use Rattle.semantics.specs.Calls.{work_area_need, over, MatchOutcome, match_matched, match_not_matched, match_exhausted, match_refused}
use Rattle.machine.specs.Theorem.{Stands}
use Rattle.reader.specs.declared.compiling.Compiled.{Compiled}
use Rattle.reader.specs.Compiles.{Unfollowed}
use Rattle.gateway_text.specs.Lines.{matched_line, not_matched_line, exhausted_line, refusal_line}
use Rattle.gateway_text.specs.Promises.{WroteLine}
use Rattle.gateway_answers.specs.Limits.{gateway_flags, line_limit, gateway_budget}
use Rattle.gateway_answers.specs.Answers.{gateway_rule, answer_line}

-- The rule ------------------------------------------------------------------

-- the rule is sound, with this tree and so many groups
abbrev pub Reads : List ℕ → Rule → ℕ → Type 0
Reads rule tree groups = (stop : ℕ) × (gateway_rule rule ≡ sound (tree, groups) stop)

-- the rule that these bytes give stands compiled
pub record Standing (rule code : List ℕ) (entry groups : ℕ) : Type 0 where
  pub tree : Rule
  pub reads : Reads rule tree groups
  pub stands : Stands code tree entry
  pub few : groups ≤ group_limit

-- why a rule is refused; for a check, also why it cannot follow one that is sound
abbrev pub Denies : (checked : Bool) (rule : List ℕ) → Refusal → Type 0
Denies false rule f = gateway_rule rule ≡ refused f.place f.reason
Denies true rule f = (gateway_rule rule ≡ refused f.place f.reason) ⊎ Unfollowed rule gateway_flags f

abbrev pub Prepares : (checked : Bool) (rule code : List ℕ) → Result Compiled Refusal → Type 0
Prepares checked rule code (Ok x) = Standing rule code x.entry x.groups
Prepares checked rule code (Err f) = Denies checked rule f

-- what every answer is lent: a rule that stands compiled, with its number of groups, and areas that are long enough
pub record Lent (code : List ℕ) (entry groups : ℕ) (work_area results : List ℕ) : Type 0 where
  pub tree : Rule
  pub stands : Stands code tree entry
  pub few : groups ≤ group_limit
  pub code_size : length code ≡ rule_area_need
  pub work_area_fits : work_area_need gateway_budget ≤ length work_area
  pub results_fit : row_length ≤ length results

-- A line --------------------------------------------------------------------

-- the line for what a match tells, with its row
unfoldable pub told_line : (groups : ℕ) → MatchOutcome → Row → List ℕ
told_line groups (match_matched steps) x = matched_line groups x
told_line groups (match_not_matched steps) x = not_matched_line
told_line groups (match_exhausted start steps) x = exhausted_line start
told_line groups (match_refused place why) x = refusal_line (number_of why) place

-- the answer to a line was written
abbrev pub Answered : (code : List ℕ) (entry groups : ℕ) (line old : List ℕ) (at : ℕ) (new : List ℕ) (end : ℕ) → Type 0
Answered code entry groups line old at new end = (tree : Rule) → Stands code tree entry → WroteLine old at (answer_line (tree, groups) line) new end

-- the row of a match stands in the result area, over what was there
unfoldable pub rowed : Outcome → List ℕ → List ℕ
rowed (matched start t) area = over (row start t) area
rowed not_matched area = area
rowed (exhausted start) area = area

-- what an answer leaves in the result area; for a line that is too long there is no match
unfoldable pub results_left : Rule → (line results : List ℕ) → List ℕ
results_left tree line results = if ltb line_limit (length line) then results else rowed (answer line tree gateway_budget).outcome results

-- what an answer leaves of the areas: of the work area no more is written than the budget needs
pub record Left (code : List ℕ) (entry : ℕ) (line work_area results work_area' results' : List ℕ) : Type 0 where
  pub work_area_rest : drop (work_area_need gateway_budget) work_area' ≡ drop (work_area_need gateway_budget) work_area
  pub results_are : (tree : Rule) → Stands code tree entry → results' ≡ results_left tree line results
