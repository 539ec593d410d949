-- The calls as a caller meets them: what is handed in, what is answered, and what is left behind.
-- docs/REFERENCE.md, 10.2, 15.2, 15.3, 16.1
use Rattle.std.specs.Prelude.{List, [], ◌∷◌, ◌++◌, ℕ, min, ◌*◌, ◌/◌, ◌^◌, length, drop, replicate, ltb, leb, if◌then◌else◌}
use Rattle.std.proofs.Math.Option.{Option, none, some}
use Rattle.syntax.specs.declared.Reason.{Reason}
use Rattle.syntax.specs.declared.Reason.TheVariants.{RuleTooLong, SubjectTooLong, UnknownFlag, BudgetTooLarge, RuleAreaShort, WorkAreaShort, ResultAreaShort, NameIndexShort}
use Rattle.syntax.specs.Limits.{rule_limit, subject_limit, budget_limit, rule_area_need, work_per_step, flag_bits, row_length, name_index_need}
use Rattle.syntax.specs.Read.{Read, sound, refused}
use Rattle.syntax.specs.Tree.{Rule}
use Rattle.syntax.specs.Reading.{names_of, reading}
use Rattle.semantics.specs.States.{Row, row}
use Rattle.semantics.specs.NameIndex.{name_index}
use Rattle.semantics.specs.Answers.{Outcome, matched, not_matched, exhausted, answer, Ending, complete, full, exhausted_at, Listing, listing}
use Rattle.semantics.specs.Explanations.{Failure, failures, furthest, closest, marks}
use Rattle.semantics.specs.Scans.{scan}

-- What is handed in ---------------------------------------------------------

pub record Call : Type 0 where
  pub rule : List ℕ
  pub flags : ℕ
  pub subject : List ℕ
  pub budget : ℕ
  pub rule_area : List ℕ  -- lent, with whatever stands in them
  pub work_area : List ℕ
  pub result_area : List ℕ  -- of an explanation, which is lent none, the bytes that it is lent for its marks
  pub names : List ℕ  -- the name index, in bytes (02, request e)

-- "the work area 16 x budget of them"
unfoldable pub work_area_need : ℕ → ℕ
work_area_need budget = work_per_step * budget

-- refusals 1 to 7, "tested in this order"; 02: "New refusal 8, after 7", for a name index that is too short. `need` is how many numbers the call needs in its
-- result area: a row, or none for an explanation.
unfoldable pub unacceptable : (need : ℕ) → Call → Option Reason
unacceptable need c =
    if ltb rule_limit (length c.rule) then some RuleTooLong
    else if ltb subject_limit (length c.subject) then some SubjectTooLong
    else if leb (2 ^ flag_bits) c.flags then some UnknownFlag
    else if ltb budget_limit c.budget then some BudgetTooLarge
    else if ltb (length c.rule_area) rule_area_need then some RuleAreaShort
    else if ltb (length c.work_area) (work_area_need c.budget) then some WorkAreaShort
    else if ltb (length c.result_area) need then some ResultAreaShort
    else if ltb (length c.names) name_index_need then some NameIndexShort
    else none

-- What is left behind ---------------------------------------------------------

-- what a call answers, and what stands in the areas when it returns
pub record Return (A : Type 0) : Type 0 where
  pub outcome : A
  pub rule_area : List ℕ
  pub work_area : List ℕ
  pub result_area : List ℕ
  pub names : List ℕ

-- numbers written over the first ones of an area: "All other numbers in the area stay unchanged"
unfoldable pub over : List ℕ → List ℕ → List ℕ
over numbers area = numbers ++ drop (length numbers) area

-- "their needed first part is zero and the rest unchanged"
unfoldable pub cleared : ℕ → List ℕ → List ℕ
cleared need area = over (replicate need 0) area

module _ {A : Type 0} where
  -- "After refusals 1 to 7 both areas are unchanged"; 8 is "like it in place and areas"
  unfoldable pub untouched : A → Call → Return A
  untouched a c = record { outcome = a; rule_area = c.rule_area; work_area = c.work_area; result_area = c.result_area; names = c.names }

  -- after any other return both areas are cleared. A rule that is refused leaves it at that: "a refused call leaves the index unchanged"
  unfoldable pub declined : A → Call → Return A
  declined a c = record {
    outcome = a;
    rule_area = cleared rule_area_need c.rule_area;
    work_area = cleared (work_area_need c.budget) c.work_area;
    result_area = c.result_area;
    names = c.names;
  }

  -- an answer, with these numbers written into the result area: "Each call fills a lent name index, bytes after it unchanged"
  unfoldable pub leaving : A → List ℕ → Call → Return A
  leaving a numbers c = record {
    outcome = a;
    rule_area = cleared rule_area_need c.rule_area;
    work_area = cleared (work_area_need c.budget) c.work_area;
    result_area = over numbers c.result_area;
    names = over (name_index (names_of c.rule c.flags)) c.names;
  }

-- A call of any kind: how it tells a refusal, by place and reason, how many numbers it needs in its result area, and what it makes of a rule that
-- is sound.
module _ {A : Type 0} (refusal : ℕ → Reason → A) (need : ℕ) (answered : Call → Rule → Return A) where
  unfoldable pub with_reading : Call → Read (Rule × ℕ) → Return A
  with_reading c (sound r at) = answered c r.0
  with_reading c (refused place why) = declined (refusal place why) c

  -- "For 1 to 7 .. the place is 0." So it is for 8.
  unfoldable pub unless_refused : Call → Option Reason → Return A
  unless_refused c (some why) = untouched (refusal 0 why) c
  unless_refused c none = with_reading c (reading c.rule c.flags)

  unfoldable pub call : Call → Return A
  call c = unless_refused c (unacceptable need c)

-- A match -----------------------------------------------------------------------

pub data MatchOutcome : Type 0 where
  match_matched : ℕ → MatchOutcome  -- the steps
  match_not_matched : ℕ → MatchOutcome  -- the steps
  match_exhausted : ℕ → ℕ → MatchOutcome  -- the start and the steps
  match_refused : ℕ → Reason → MatchOutcome  -- the place and the reason

-- "A match writes one row when matched and otherwise none."
unfoldable pub match_returns : Call → Outcome → ℕ → Return MatchOutcome
match_returns c (matched start t) steps = leaving (match_matched steps) (row start t) c
match_returns c not_matched steps = leaving (match_not_matched steps) [] c
match_returns c (exhausted start) steps = leaving (match_exhausted start steps) [] c

unfoldable pub match_rule : Call → Rule → Return MatchOutcome
match_rule c r = let a = answer c.subject r c.budget in match_returns c a.outcome a.steps

unfoldable pub match_call : Call → Return MatchOutcome
match_call c = call match_refused row_length match_rule c

-- A listing ---------------------------------------------------------------------

pub data ListOutcome : Type 0 where
  list_complete : ℕ → ℕ → ListOutcome  -- the rows written and the steps
  list_full : ℕ → ℕ → ListOutcome  -- the rows written and the steps
  list_exhausted : ℕ → ℕ → ℕ → ListOutcome  -- the start, the rows written and the steps
  list_refused : ℕ → Reason → ListOutcome  -- the place and the reason

unfoldable pub list_outcome : Ending → ℕ → ℕ → ListOutcome
list_outcome complete rows steps = list_complete rows steps
list_outcome full rows steps = list_full rows steps
list_outcome (exhausted_at start) rows steps = list_exhausted start rows steps

-- the numbers of rows, one after another
unfoldable pub joined : List Row → List ℕ
joined [] = []
joined (x ∷ rows) = x ++ joined rows

-- "A listing has as many rows as" a row's numbers fit "into its area"
unfoldable pub room : List ℕ → ℕ
room area = length area / row_length

-- rows at the front of the area, one after another, and how many they are
abbrev pub list_returns : Call → Listing → Return ListOutcome
list_returns c l = leaving (list_outcome l.ending (length l.rows) l.steps) (joined l.rows) c

unfoldable pub list_rule : Call → Rule → Return ListOutcome
list_rule c r = list_returns c (listing c.subject r c.budget (room c.result_area))

unfoldable pub list_call : Call → Return ListOutcome
list_call c = call list_refused row_length list_rule c

-- Successive matches ------------------------------------------------------------

-- 02, request g): "rows like the listing's, with the same 'full' and 'exhausted' endings"
unfoldable pub scan_rule : Call → Rule → Return ListOutcome
scan_rule c r = list_returns c (scan c.subject r c.budget (room c.result_area))

unfoldable pub scan_call : Call → Return ListOutcome
scan_call c = call list_refused row_length scan_rule c

-- An explanation ----------------------------------------------------------------

-- 02, request f)
pub data ExplainOutcome : Type 0 where
  explain_fits : ℕ → ExplainOutcome  -- "if matched, say that": the steps
  explain_unfit : ℕ → Failure → Failure → ExplainOutcome  -- the steps, the furthest failure and the closest attempt
  explain_exhausted : ℕ → ℕ → ExplainOutcome  -- "If the walk is exhausted, say that and its start": the start and the steps
  explain_refused : ℕ → Reason → ExplainOutcome  -- the place and the reason

-- the bytes of the rule that there is room to mark
unfoldable pub markable : Call → ℕ
markable c = min (length c.rule) (length c.result_area)

-- "For a line that isn't matched": only then are marks written
unfoldable pub explain_returns : Call → Rule → Outcome → ℕ → Return ExplainOutcome
explain_returns c r (matched start t) steps = leaving (explain_fits steps) [] c
explain_returns c r not_matched steps =
    let l = failures c.subject r in
    leaving (explain_unfit steps (furthest l) (closest l)) (marks c.subject r (closest l) (markable c)) c
explain_returns c r (exhausted start) steps = leaving (explain_exhausted start steps) [] c

unfoldable pub explain_rule : Call → Rule → Return ExplainOutcome
explain_rule c r = let a = answer c.subject r c.budget in explain_returns c r a.outcome a.steps

-- "No result area is lent, so 7 isn't given."
unfoldable pub explain_call : Call → Return ExplainOutcome
explain_call c = call explain_refused 0 explain_rule c
