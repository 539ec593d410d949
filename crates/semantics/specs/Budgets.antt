-- A bigger budget must not change an order. 02, request n): "For the same rule, line, flags and room, neither call refused: an answer 'matched' or 'not
-- matched', with its row and steps, is the same at every larger budget, and so is a listing that ended complete or full. An exhausted listing's rows are
-- the first rows of any listing at a larger budget. It covers g) and h) as well, line by line." So it does an explanation, though 02 does not name it
-- (docs/DECISIONS.md). Laws/Budgets proves it of what a budget cuts, and Laws/BudgetsOfCalls of the calls (`larger-budget`).
-- docs/REFERENCE.md, 16.9
use Rattle.std.specs.Prelude.{◌≡◌, List, ◌++◌, ◌⊎◌, ℕ, ◌*◌, ◌≤◌, ◌<◌, length, get_or, take, drop}
use Rattle.syntax.specs.declared.Reason.{Reason}
use Rattle.syntax.specs.Limits.{row_length}
use Rattle.semantics.specs.States.{Row}
use Rattle.semantics.specs.Runs.{Moment, beyond, Run}
use Rattle.semantics.specs.Answers.{exhausted, Answer, exhausted_at, Listing}
use Rattle.semantics.specs.Explanations.{Failure}
use Rattle.semantics.specs.Calls.{Call, Return, MatchOutcome, match_matched, match_not_matched, match_refused, match_call, ListOutcome, list_complete, list_full, list_exhausted, list_refused, list_call, scan_call, ExplainOutcome, explain_fits, explain_unfit, explain_refused, explain_call}
use Rattle.semantics.specs.Batches.{lines_of, BatchOutcome, batch_refused, batch_call}
use Rattle.semantics.specs.Demands.{rows_reported}
use Rattle.semantics.specs.BatchDemands.{part}

-- What a budget cuts ------------------------------------------------------------

-- the walks of x stopped at their budget; those of y have met the same up to there, and go on
pub record GoesOn (x y : Run) : Type 0 where
  pub start : ℕ
  pub stopped : x.stop ≡ beyond start
  pub later : List Moment
  pub met : y.met ≡ x.met ++ later

-- x is what walks meet within a budget, y what they meet within a larger one: a larger budget does nothing else
abbrev pub Lengthens : Run → Run → Type 0
Lengthens x y = (y ≡ x) ⊎ GoesOn x y

-- so an answer is the same, or the one at the smaller budget is exhausted;
abbrev pub AnswerStays : Answer → Answer → Type 0
AnswerStays a b = (b ≡ a) ⊎ ((start : ℕ) × (a.outcome ≡ exhausted start))

-- and a listing, or successive matches, are the same, or the one at the smaller budget is exhausted with the first rows of the other
pub record FirstRows (k l : Listing) : Type 0 where
  pub start : ℕ
  pub stopped : k.ending ≡ exhausted_at start
  pub later : List Row
  pub rows : l.rows ≡ k.rows ++ later

abbrev pub ListingStays : Listing → Listing → Type 0
ListingStays k l = (l ≡ k) ⊎ FirstRows k l

-- Two calls ---------------------------------------------------------------------

-- The same call with another budget. A work area for that budget is lent too: with a shorter one the call is refused.
abbrev pub with_budget : (budget : ℕ) (work_area : List ℕ) → Call → Call
with_budget budget work_area c = record {
  rule = c.rule;
  flags = c.flags;
  subject = c.subject;
  budget = budget;
  rule_area = c.rule_area;
  work_area = work_area;
  result_area = c.result_area;
  names = c.names;
}

-- "neither call refused"
abbrev pub NotRefused : {A : Type 0} → (ℕ → Reason → A) → Return A → Type 0
NotRefused refusal x = (place : ℕ) (why : Reason) → ¬ (x.outcome ≡ refusal place why)

-- "is the same": all that is returned and left but for the work area
pub record Same {A : Type 0} (x y : Return A) : Type 0 where
  pub outcome : y.outcome ≡ x.outcome  -- the steps are part of it
  pub result_area : y.result_area ≡ x.result_area  -- its row stands there, or its rows
  pub rule_area : y.rule_area ≡ x.rule_area
  pub names : y.names ≡ x.names

-- What each kind of call returns, x, and what it returns at a larger budget, y -----------

pub record MatchStays (x y : Return MatchOutcome) : Type 0 where
  -- "an answer 'matched'
  pub matched_stays : (steps : ℕ) → x.outcome ≡ match_matched steps → Same x y
  -- or 'not matched', with its row and steps, is the same at every larger budget,
  pub not_matched_stays : (steps : ℕ) → x.outcome ≡ match_not_matched steps → Same x y

-- a listing, or successive matches
pub record RowsStay (x y : Return ListOutcome) : Type 0 where
  -- and so is a listing that ended complete
  pub complete_stays : (rows steps : ℕ) → x.outcome ≡ list_complete rows steps → Same x y
  -- or full.
  pub full_stays : (rows steps : ℕ) → x.outcome ≡ list_full rows steps → Same x y
  -- An exhausted listing's rows are the first rows of any listing at a larger budget."
  pub first_rows : (start rows steps : ℕ) → x.outcome ≡ list_exhausted start rows steps
      → (rows ≤ rows_reported y.outcome) × (take (rows * row_length) y.result_area ≡ take (rows * row_length) x.result_area)

-- what it tells of a line that does not fit, and its marks, are part of what is the same
pub record ExplanationStays (x y : Return ExplainOutcome) : Type 0 where
  pub fits_stays : (steps : ℕ) → x.outcome ≡ explain_fits steps → Same x y
  pub unfit_stays : (steps : ℕ) (far near : Failure) → x.outcome ≡ explain_unfit steps far near → Same x y

-- the first of a line's "four numbers: 0 matched, 1 not, 2 exhausted, 3 refused"
abbrev pub line_outcome : (i : ℕ) (area : List ℕ) → ℕ
line_outcome i area = get_or (drop row_length (part i area)) 0 0

-- "line by line": the part of each line that is not exhausted
pub record LinesStay (lines : List (List ℕ)) (x y : Return BatchOutcome) : Type 0 where
  pub done : y.outcome ≡ x.outcome
  pub each_line : (i : ℕ) → i < length lines → ¬ (line_outcome i x.result_area ≡ 2) → part i y.result_area ≡ part i x.result_area

-- Request n), of every call --------------------------------------------------------------

-- d is c with a larger budget. The check of a proposed reading, request m), has its place here.
pub record OrderStays (c d : Call) : Type 0 where
  pub a_match : NotRefused match_refused (match_call c) → NotRefused match_refused (match_call d) → MatchStays (match_call c) (match_call d)
  pub a_listing : NotRefused list_refused (list_call c) → NotRefused list_refused (list_call d) → RowsStay (list_call c) (list_call d)
  pub successive_matches : NotRefused list_refused (scan_call c) → NotRefused list_refused (scan_call d) → RowsStay (scan_call c) (scan_call d)
  pub an_explanation : NotRefused explain_refused (explain_call c) → NotRefused explain_refused (explain_call d) → ExplanationStays (explain_call c) (explain_call d)
  pub a_days_lines : NotRefused batch_refused (batch_call c) → NotRefused batch_refused (batch_call d) → LinesStay (lines_of c.subject) (batch_call c) (batch_call d)
