-- The demands on the calls, sentence by sentence, as statements over derivations; DemandsHold proves them for all inputs.
--
-- n and m are starts, t and u states in which the rule's end is reached, j and k numbers of steps, x and y readings, as rows, or failures.
-- docs/REFERENCE.md, 16.1 to 16.3, 16.5, 16.8
use Rattle.std.specs.Prelude.{◌≡◌, List, [], ◌∷◌, ◌⊎◌, ◌↔◌, ℕ, zero, suc, ◌+◌, ◌*◌, ◌^◌, ◌≤◌, ◌<◌, length, get_or, take, drop, replicate}
use Rattle.syntax.specs.declared.Reason.{Reason}
use Rattle.syntax.specs.declared.Reason.TheVariants.{RuleTooLong, SubjectTooLong, UnknownFlag, BudgetTooLarge, RuleAreaShort, WorkAreaShort, ResultAreaShort, NameIndexShort}
use Rattle.syntax.specs.Limits.{rule_limit, subject_limit, budget_limit, rule_area_need, flag_bits, group_limit, unset, row_length, slot, name_index_need}
use Rattle.syntax.specs.Refusals.{number_of}
use Rattle.syntax.specs.Read.{sound, refused}
use Rattle.syntax.specs.Tree.{Rule}
use Rattle.syntax.specs.Reading.{names_of, reading}
use Rattle.semantics.specs.States.{Before, State, Row, row}
use Rattle.semantics.specs.Derivations.{Derivation}
use Rattle.semantics.specs.Walk.{miss, Trace, trace, Reaches}
use Rattle.semantics.specs.NameIndex.{name_index}
use Rattle.semantics.specs.Answers.{matched, not_matched, exhausted, Answer, complete, full, exhausted_at, Listing}
use Rattle.semantics.specs.Explanations.{Failure, position, reach}
use Rattle.semantics.specs.Calls.{Call, work_area_need, Return, MatchOutcome, match_matched, match_not_matched, match_exhausted, match_refused, ListOutcome, list_complete, list_full, list_exhausted, list_refused, joined, room, ExplainOutcome, explain_fits, explain_unfit, explain_exhausted, explain_refused, markable}

-- Words that the demands share --------------------------------------------------

module _ {A : Type 0} where
  -- x is in a list
  abbrev pub In : A → List A → Type 0
  In x [] = ⊥
  In x (y ∷ l) = (y ≡ x) ⊎ In x l

  -- no two elements of a list are the same
  abbrev pub Distinct : List A → Type 0
  Distinct [] = Unit {0}
  Distinct (x ∷ l) = (¬ In x l) × Distinct l

-- "0 to the subject's length"
abbrev pub Start : List ℕ → ℕ → Type 0
Start sub n = n ≤ length sub

-- the step that the walk from n takes after k others comes before the one that the walk from m takes after j others
abbrev pub Earlier : ℕ → ℕ → ℕ → ℕ → Type 0
Earlier n k m j = (n < m) ⊎ ((n ≡ m) × (k < j))

-- with j steps taken, the next one tries the item at a place in the rule, which fails at a position in the subject
abbrev pub Misses : Trace → ℕ → (place at : ℕ) → Type 0
Misses [] j place at = ⊥
Misses (e ∷ es) zero place at = e ≡ miss place at
Misses (e ∷ es) (suc j) place at = Misses es j place at

-- the steps of all walks before start n
unfoldable pub steps_before : (ℕ → Trace) → ℕ → ℕ
steps_before walk_from zero = 0
steps_before walk_from (suc n) = steps_before walk_from n + length (walk_from n)

-- Demand 1, of a call of any kind ------------------------------------------------------

-- 01, "Refusal numbers", 1 to 7, and 02's 8: "Given exactly when". `need` is how many numbers the call needs in its result area.
pub data Fault (need : ℕ) (c : Call) : Reason → Type 0 where
  rule_too_long : rule_limit < length c.rule → Fault need c RuleTooLong  -- "rule over 1,000 bytes"
  subject_too_long : subject_limit < length c.subject → Fault need c SubjectTooLong  -- "subject over 65,535 bytes"
  unknown_flag : 2 ^ flag_bits ≤ c.flags → Fault need c UnknownFlag  -- 02: "refusal 3 now starts at bit 5": bits 0 to 4 alone make less than 32
  budget_too_large : budget_limit < c.budget → Fault need c BudgetTooLarge  -- "budget over 100,000"
  rule_area_short : length c.rule_area < rule_area_need → Fault need c RuleAreaShort  -- "rule area short"
  work_area_short : length c.work_area < work_area_need c.budget → Fault need c WorkAreaShort  -- "work area short"
  result_area_short : length c.result_area < need → Fault need c ResultAreaShort  -- 02, j): "Refusal 7 is given under 130 numbers", where a row is needed
  name_index_short : length c.names < name_index_need → Fault need c NameIndexShort  -- 02, j): "8 is given under 1,088 bytes"

abbrev pub Faultless : ℕ → Call → Type 0
Faultless need c = (why : Reason) → ¬ Fault need c why

-- "tested in this order"
pub record FirstFault (need : ℕ) (c : Call) (why : Reason) : Type 0 where
  pub fault : Fault need c why
  pub lowest : (other : Reason) → Fault need c other → number_of why ≤ number_of other

-- the refusal that 01 names for an input: its place and its reason
pub data Refuses (need : ℕ) (c : Call) : ℕ → Reason → Type 0 where
  -- "For 1 to 7, tested in this order, the place is 0." 8 is tested after 7, "and like it in place"
  itself : {why : Reason} → FirstFault need c why → Refuses need c 0 why
  -- from 10 on: "The first met reading left to right is given", which is how `reading` is defined
  its_rule : {place : ℕ} {why : Reason} → Faultless need c → reading c.rule c.flags ≡ refused place why → Refuses need c place why

-- none is named, and the rule's tree is r, with so many groups
pub record Accepted (need : ℕ) (c : Call) (r : Rule) (groups : ℕ) : Type 0 where
  pub faultless : Faultless need c
  pub stop : ℕ
  pub reads : reading c.rule c.flags ≡ sound (r, groups) stop

-- an area's first numbers after a call, and "All other numbers in the area stay unchanged."
pub record Written (numbers before after : List ℕ) : Type 0 where
  pub fits : length numbers ≤ length before
  pub first : take (length numbers) after ≡ numbers
  pub rest : drop (length numbers) after ≡ drop (length numbers) before

-- x is what a call of c returns. Some inputs have faults of their own, before the rule is read; some have a refusal named for them, of which these are the
-- first; and the others pass.
pub record Regular {A : Type 0} (refusal : ℕ → Reason → A) (Faults : Reason → Type 0) (Named : ℕ → Reason → Type 0) (Passes : Rule → ℕ → Type 0) (c : Call) (x : Return A) : Type 0 where
  -- "any rule, line, flags, budget and lent areas may be handed in, and each call answers or gives exactly the refusal that 01 names for
  -- that input, and none otherwise;
  pub answers_or_refuses : ((r : Rule) × (groups : ℕ) × Passes r groups) ⊎ ((place : ℕ) × (why : Reason) × Named place why)
  pub refused_exactly : (place : ℕ) (why : Reason) → (x.outcome ≡ refusal place why) ↔ Named place why
  -- a refused call changes no row,
  pub no_row_changed : (place : ℕ) (why : Reason) → x.outcome ≡ refusal place why → x.result_area ≡ c.result_area
  -- and the areas are left as 01 says": "After refusals 1 to 7 both areas are unchanged;
  pub areas_unchanged : (why : Reason) → Faults why → (x.rule_area ≡ c.rule_area) × (x.work_area ≡ c.work_area)
  -- 02: "a refused call leaves the index unchanged";
  pub index_unchanged : (place : ℕ) (why : Reason) → x.outcome ≡ refusal place why → x.names ≡ c.names
  -- "Each call fills a lent name index, bytes after it unchanged."
  pub index_filled : (r : Rule) (groups : ℕ) → Passes r groups → Written (name_index (names_of c.rule c.flags)) c.names x.names
  -- after any other return their needed first part is zero and the rest unchanged."
  pub rule_area_zeroed : ((why : Reason) → ¬ Faults why) → Written (replicate rule_area_need 0) c.rule_area x.rule_area
  pub work_area_zeroed : ((why : Reason) → ¬ Faults why) → Written (replicate (work_area_need c.budget) 0) c.work_area x.work_area

abbrev pub Demand1 : {A : Type 0} → (ℕ → Reason → A) → ℕ → Call → Return A → Type 0
Demand1 refusal need c x = Regular refusal (Fault need c) (Refuses need c) (Accepted need c) c x

-- Demand 2, of an answer -------------------------------------------------------------------

module _ (sub : List ℕ) (r : Rule) where
  abbrev pub NoDerivation : ℕ → Type 0
  NoDerivation n = (t : State) → ¬ Derivation sub r n t

  -- of all derivations from n, the first by priority
  pub record FirstDerivation (n : ℕ) (t : State) : Type 0 where
    pub derives : Derivation sub r n t
    pub first : (u : State) → Derivation sub r n u → (t ≡ u) ⊎ Before t.path u.path

  module _ (budget : ℕ) where
    abbrev pub EndsWithin : ℕ → Type 0
    EndsWithin n = length (trace sub r n) ≤ budget

    -- "needs a step beyond the budget"
    abbrev pub Overruns : ℕ → Type 0
    Overruns n = budget < length (trace sub r n)

    -- "before it reaches an end"
    pub record OverrunsWithNoEnd (n : ℕ) : Type 0 where
      pub needs : Overruns n
      pub no_end : (j : ℕ) (t : State) → j < budget → ¬ Reaches (trace sub r n) j t

    -- "the leftmost start's first derivation by priority": no walk before it has an end, or needs a step beyond the budget
    pub record MatchedWhen (n : ℕ) (t : State) : Type 0 where
      pub start : Start sub n
      pub leftmost : (m : ℕ) → m < n → NoDerivation m × EndsWithin m
      pub first_by_priority : FirstDerivation n t
      -- its end is reached within the budget
      pub in_time : (j : ℕ) × (j < budget) × Reaches (trace sub r n) j t

    -- "with no match at an earlier start", and "the first such start"
    pub record ExhaustedWhen (n : ℕ) : Type 0 where
      pub start : Start sub n
      pub overruns : OverrunsWithNoEnd n
      pub first_such : (m : ℕ) → m < n → NoDerivation m × (¬ OverrunsWithNoEnd m)

    pub record Demand2 (a : Answer) : Type 0 where
      -- "A match is the leftmost start's first derivation by priority with its captures."
      pub matched_exactly : (n : ℕ) (t : State) → (a.outcome ≡ matched n t) ↔ MatchedWhen n t
      -- "'Not matched' exactly when no derivation exists at any start and the walk at every start ends within the budget."
      pub not_matched_exactly : (a.outcome ≡ not_matched) ↔ ((n : ℕ) → Start sub n → NoDerivation n × EndsWithin n)
      -- "'Exhausted' exactly when some start's walk needs a step beyond the budget before it reaches an end, with no match at an earlier
      -- start; it names the first such start."
      pub exhausted_exactly : (n : ℕ) → (a.outcome ≡ exhausted n) ↔ ExhaustedWhen n
      -- 01: "Every answer .. reports its steps, the sum over the starts begun", "A match stops at the first end reached"
      pub steps_matched : (n : ℕ) (t : State) → a.outcome ≡ matched n t → (j : ℕ) × Reaches (trace sub r n) j t × (a.steps ≡ steps_before (trace sub r) n + suc j)
      pub steps_not_matched : a.outcome ≡ not_matched → a.steps ≡ steps_before (trace sub r) (suc (length sub))
      pub steps_exhausted : (n : ℕ) → a.outcome ≡ exhausted n → a.steps ≡ steps_before (trace sub r) n + budget

  -- Demand 3, of a listing -----------------------------------------------------------------

  -- "every reading (start, end, all captures) that has a derivation"
  pub record Reading (x : Row) : Type 0 where
    pub n : ℕ
    pub t : State
    pub start : Start sub n
    pub derives : Derivation sub r n t
    pub is : x ≡ row n t

  -- its first derivation
  pub record FirstOf (x : Row) (n : ℕ) (t : State) : Type 0 where
    pub start : Start sub n
    pub derives : Derivation sub r n t
    pub is : x ≡ row n t
    pub first : (u : State) → Derivation sub r n u → x ≡ row n u → (t ≡ u) ⊎ Before t.path u.path

  -- "by start and then by the priority of its first derivation"
  pub record Precedes (x y : Row) : Type 0 where
    pub n : ℕ
    pub t : State
    pub m : ℕ
    pub u : State
    pub left : FirstOf x n t
    pub right : FirstOf y m u
    pub sooner : (n < m) ⊎ ((n ≡ m) × Before t.path u.path)

  abbrev pub InOrder : List Row → Type 0
  InOrder [] = Unit {0}
  InOrder (x ∷ l) = ((y : Row) → In y l → Precedes x y) × InOrder l

  -- the walks before start n, or the first j steps of that from n, reach the reading x
  pub record ReachedBefore (n j : ℕ) (x : Row) : Type 0 where
    pub m : ℕ
    pub k : ℕ
    pub t : State
    pub earlier : Earlier m k n j
    pub reaches : Reaches (trace sub r m) k t
    pub is : x ≡ row m t

  module _ (budget limit : ℕ) where
    -- "a walk reaches a new reading with no row left": the walk from n, after j steps, and as many readings as the limit of rows were
    -- reached before
    pub record FullAt (n j : ℕ) : Type 0 where
      pub start : Start sub n
      pub t : State
      pub reaches : Reaches (trace sub r n) j t
      pub new : ¬ ReachedBefore n j (row n t)
      pub taken : List Row
      pub taken_once : Distinct taken
      pub taken_are : (x : Row) → In x taken ↔ ReachedBefore n j x
      pub taken_all : length taken ≡ limit

    -- "whichever comes first": the budget
    pub record CutByBudget (n : ℕ) : Type 0 where
      pub start : Start sub n
      pub overruns : Overruns budget n
      pub first_such : (m : ℕ) → m < n → EndsWithin budget m
      pub not_full_before : (m k : ℕ) → Earlier m k n budget → ¬ FullAt m k

    -- or the room
    pub record CutByRoom (n j : ℕ) : Type 0 where
      pub full_at : FullAt n j
      pub within : j < budget
      pub not_exhausted_before : (m : ℕ) → m < n → EndsWithin budget m

    pub record Demand3 (l : Listing) : Type 0 where
      -- "A listing that isn't refused keeps to one order: every reading .. that has a derivation, each once, by start and then by the
      -- priority of its first derivation."
      pub one_order : InOrder l.rows
      pub each_once : Distinct l.rows
      -- "Cut by the budget exactly when some start's walk needs a step beyond it,
      pub cut_by_budget : (n : ℕ) → (l.ending ≡ exhausted_at n) ↔ CutByBudget n
      -- and by its room exactly when a walk reaches a new reading with no row left, whichever comes first;
      pub cut_by_room : (l.ending ≡ full) ↔ ((n : ℕ) × (j : ℕ) × CutByRoom n j)
      -- otherwise complete,
      pub otherwise_complete : (l.ending ≡ complete) ↔ (((n : ℕ) → Start sub n → EndsWithin budget n) × ((n j : ℕ) → ¬ FullAt n j))
      -- and then its rows are exactly all those readings in that order."
      pub complete_rows : l.ending ≡ complete → (x : Row) → In x l.rows ↔ Reading x
      -- "A cut listing's rows are exactly the readings that the walks reached before the cut, but for the one that found no room."
      pub rows_before_budget : (n : ℕ) → l.ending ≡ exhausted_at n → (x : Row) → In x l.rows ↔ ReachedBefore n budget x
      pub rows_before_room : (n j : ℕ) → CutByRoom n j → (x : Row) → In x l.rows ↔ ReachedBefore n j x
      -- They are the first of that order.
      pub first_of_order : (x y : Row) → In x l.rows → Reading y → ¬ In y l.rows → Precedes x y
      -- "Rows and steps as 01 counts them": "A complete listing reports the steps of all its walks; an exhausted one those of the earlier
      -- starts plus the budget; a full one those of the earlier starts plus those up to the end that found no row."
      pub rows_fit : length l.rows ≤ limit
      pub full_rows : l.ending ≡ full → length l.rows ≡ limit
      pub steps_complete : l.ending ≡ complete → l.steps ≡ steps_before (trace sub r) (suc (length sub))
      pub steps_exhausted : (n : ℕ) → l.ending ≡ exhausted_at n → l.steps ≡ steps_before (trace sub r) n + budget
      pub steps_full : (n j : ℕ) → CutByRoom n j → l.steps ≡ steps_before (trace sub r) n + suc j

  -- 02, request f), of a line that isn't matched -------------------------------------------

  -- the walk from its start, with k steps taken, tries an item that fails: y
  abbrev pub FailsAfter : ℕ → Failure → Type 0
  FailsAfter k y = Start sub y.start × Misses (trace sub r y.start) k y.place y.at

  -- of all that fail the first that is greatest by a measure, "in walk order over all starts"
  pub record FirstFailure (by : Failure → ℕ) (x : Failure) : Type 0 where
    pub after : ℕ
    pub fails : FailsAfter after x
    pub greatest : (k : ℕ) (y : Failure) → FailsAfter k y → by y ≤ by x
    pub first : (k : ℕ) (y : Failure) → FailsAfter k y → Earlier y.start k x.start after → by y < by x

  -- a byte for each of so many bytes of the rule: 1 where an item begins that failed where x did, in the same attempt, else 0
  pub record MarksOf (x : Failure) (many : ℕ) (marks : List ℕ) : Type 0 where
    pub size : length marks ≡ many
    pub one_where_failed : (i k : ℕ) → i < many → Misses (trace sub r x.start) k i x.at → get_or marks i 0 ≡ 1
    pub zero_elsewhere : (i : ℕ) → i < many → ((k : ℕ) → ¬ Misses (trace sub r x.start) k i x.at) → get_or marks i 0 ≡ 0

-- The agreement, of an answer and a listing ------------------------------------------

pub record Agreement (a : Answer) (l : Listing) : Type 0 where
  -- "A match on the same inputs, not refused either, is matched with the listing's first row;
  pub first_row : (x : Row) (more : List Row) → l.rows ≡ x ∷ more → (n : ℕ) × (t : State) × (a.outcome ≡ matched n t) × (row n t ≡ x)
  -- where the listing has no row, the match answers 'not matched' if the listing is complete, otherwise 'exhausted' at the same start, and
  -- either way with the same steps."
  pub no_row : l.rows ≡ [] → (((l.ending ≡ complete) × (a.outcome ≡ not_matched)) ⊎ ((n : ℕ) × (l.ending ≡ exhausted_at n) × (a.outcome ≡ exhausted n))) × (a.steps ≡ l.steps)

-- 01's rows --------------------------------------------------------------------------------

-- the two numbers of a group: "start, end and 64 pairs"
abbrev pub span_from : Row → ℕ → ℕ
span_from x group = get_or (drop 2 x) (slot group) 0

abbrev pub span_to : Row → ℕ → ℕ
span_to x group = get_or (drop 2 x) (slot group + 1) 0

-- "an unset or missing group is 4294967295 twice"
abbrev pub IsUnset : ℕ → ℕ → Type 0
IsUnset from to = (from ≡ unset) × (to ≡ unset)

-- a row of a rule with so many groups
pub record RowFacts (sub : List ℕ) (groups : ℕ) (x : Row) : Type 0 where
  -- 02, j): "A row becomes 130 numbers"
  pub size : length x ≡ row_length
  -- "Start <= end <= length", and each set span lies within the line: 02 l), "A capture may now lie outside the match, but within the
  -- line." None lies before the start, as nothing looks back.
  pub forward : get_or x 0 0 ≤ get_or x 1 0
  pub inside : get_or x 1 0 ≤ length sub
  pub spans : (group : ℕ) → 1 ≤ group → group ≤ group_limit → IsUnset (span_from x group) (span_to x group) ⊎ ((get_or x 0 0 ≤ span_from x group) × (span_from x group ≤ span_to x group) × (span_to x group ≤ length sub))
  pub missing : (group : ℕ) → groups < group → group ≤ group_limit → IsUnset (span_from x group) (span_to x group)

-- The whole of a match ---------------------------------------------------------------------

-- 01: "so at most budget x (length + 1)"
abbrev pub step_limit : Call → ℕ
step_limit c = c.budget * (length c.subject + 1)

-- what a match of a rule that is not refused returns: an answer that meets demand 2
pub record MatchAnswers (c : Call) (r : Rule) (groups : ℕ) (x : Return MatchOutcome) : Type 0 where
  pub answer : Answer
  pub demand_2 : Demand2 c.subject r c.budget answer
  pub steps_bounded : answer.steps ≤ step_limit c
  -- "A match writes one row when matched and otherwise none."
  pub when_matched : (n : ℕ) (t : State) → answer.outcome ≡ matched n t → (x.outcome ≡ match_matched answer.steps) × Written (row n t) c.result_area x.result_area × RowFacts c.subject groups (row n t)
  pub when_not_matched : answer.outcome ≡ not_matched → (x.outcome ≡ match_not_matched answer.steps) × (x.result_area ≡ c.result_area)
  pub when_exhausted : (n : ℕ) → answer.outcome ≡ exhausted n → (x.outcome ≡ match_exhausted n answer.steps) × (x.result_area ≡ c.result_area)

pub record MatchDemands (c : Call) (x : Return MatchOutcome) : Type 0 where
  pub demand_1 : Demand1 match_refused row_length c x
  pub answers : (r : Rule) (groups : ℕ) → Accepted row_length c r groups → MatchAnswers c r groups x

-- The whole of a listing --------------------------------------------------------------------

-- what a call tells and writes of its listing
pub record TellsRows (c : Call) (groups : ℕ) (l : Listing) (x : Return ListOutcome) : Type 0 where
  pub when_complete : l.ending ≡ complete → x.outcome ≡ list_complete (length l.rows) l.steps
  pub when_full : l.ending ≡ full → x.outcome ≡ list_full (length l.rows) l.steps
  pub when_exhausted : (n : ℕ) → l.ending ≡ exhausted_at n → x.outcome ≡ list_exhausted n (length l.rows) l.steps
  -- its rows stand at the front of the area, one after another
  pub rows_written : Written (joined l.rows) c.result_area x.result_area
  pub rows_right : (y : Row) → In y l.rows → RowFacts c.subject groups y

-- what a listing of a rule that is not refused returns: a listing that meets demand 3
pub record ListAnswers (c : Call) (r : Rule) (groups : ℕ) (x : Return ListOutcome) : Type 0 where
  pub listing : Listing
  pub demand_3 : Demand3 c.subject r c.budget (room c.result_area) listing
  pub steps_bounded : listing.steps ≤ step_limit c
  pub tells : TellsRows c groups listing x

pub record ListDemands (c : Call) (x : Return ListOutcome) : Type 0 where
  pub demand_1 : Demand1 list_refused row_length c x
  pub answers : (r : Rule) (groups : ℕ) → Accepted row_length c r groups → ListAnswers c r groups x

-- The whole of an explanation ------------------------------------------------------------------

-- what is told of a line that isn't matched
pub record TellsWhy (c : Call) (r : Rule) (steps : ℕ) (x : Return ExplainOutcome) : Type 0 where
  pub far : Failure
  pub near : Failure
  pub told : x.outcome ≡ explain_unfit steps far near
  -- 02: "the greatest place in the line at which the walk tried an item that failed, and the place in the rule of the first such item tried
  -- there, in walk order over all starts";
  pub furthest : FirstFailure c.subject r position far
  -- our own addition (docs/DECISIONS.md), the closest attempt: of all failed items the first with the greatest distance from its start to where
  -- it was tried,
  pub closest : FirstFailure c.subject r reach near
  -- and all that failed there in that attempt, marked in the bytes that are lent for it, as far as they go
  pub marks : List ℕ
  pub marks_right : MarksOf c.subject r near (markable c) marks
  pub marks_written : Written marks c.result_area x.result_area

-- what an explanation of a rule that is not refused returns: an answer that meets demand 2, and why
pub record ExplainAnswers (c : Call) (r : Rule) (x : Return ExplainOutcome) : Type 0 where
  pub answer : Answer
  pub demand_2 : Demand2 c.subject r c.budget answer
  pub steps_bounded : answer.steps ≤ step_limit c
  -- "For a line that isn't matched, give ..";
  pub when_not_matched : answer.outcome ≡ not_matched → TellsWhy c r answer.steps x
  -- "If the walk is exhausted, say that and its start;
  pub when_exhausted : (n : ℕ) → answer.outcome ≡ exhausted n → (x.outcome ≡ explain_exhausted n answer.steps) × (x.result_area ≡ c.result_area)
  -- if matched, say that."
  pub when_matched : (n : ℕ) (t : State) → answer.outcome ≡ matched n t → (x.outcome ≡ explain_fits answer.steps) × (x.result_area ≡ c.result_area)
  -- "A walk that isn't exhausted and in which nothing failed always matches."
  pub always_matches : (n : ℕ) → Start c.subject n → ((k place at : ℕ) → ¬ Misses (trace c.subject r n) k place at)
      → ((m : ℕ) → ¬ (x.outcome ≡ explain_exhausted m answer.steps)) → x.outcome ≡ explain_fits answer.steps

-- "No result area is lent, so 7 isn't given."
pub record ExplainDemands (c : Call) (x : Return ExplainOutcome) : Type 0 where
  pub demand_1 : Demand1 explain_refused 0 c x
  pub answers : (r : Rule) (groups : ℕ) → Accepted 0 c r groups → ExplainAnswers c r x

-- The agreement, of two calls ------------------------------------------------------------------

-- "the same inputs": the areas may be others
pub record SameInputs (c d : Call) : Type 0 where
  pub rule : c.rule ≡ d.rule
  pub flags : c.flags ≡ d.flags
  pub subject : c.subject ≡ d.subject
  pub budget : c.budget ≡ d.budget

abbrev pub rows_reported : ListOutcome → ℕ
rows_reported (list_complete rows steps) = rows
rows_reported (list_full rows steps) = rows
rows_reported (list_exhausted start rows steps) = rows
rows_reported (list_refused place why) = 0

-- x is what a match returns and y what a listing does, neither refused
pub record CallsAgree (x : Return MatchOutcome) (y : Return ListOutcome) : Type 0 where
  -- "A match .. is matched with the listing's first row;
  pub first_row : 0 < rows_reported y.outcome → (steps : ℕ) × (x.outcome ≡ match_matched steps) × (take row_length x.result_area ≡ take row_length y.result_area)
  -- where the listing has no row, the match answers 'not matched' if the listing is complete,
  pub not_matched_too : (steps : ℕ) → y.outcome ≡ list_complete 0 steps → x.outcome ≡ match_not_matched steps
  -- otherwise 'exhausted' at the same start, and either way with the same steps."
  pub exhausted_too : (n steps : ℕ) → y.outcome ≡ list_exhausted n 0 steps → x.outcome ≡ match_exhausted n steps
  pub never_full : (steps : ℕ) → ¬ (y.outcome ≡ list_full 0 steps)

-- x is what a match returns and y what an explanation does, neither refused: "matched", "isn't matched" and "exhausted" are those of the match, with
-- its steps
pub record ExplanationAgrees (x : Return MatchOutcome) (y : Return ExplainOutcome) : Type 0 where
  pub fits : (steps : ℕ) → (y.outcome ≡ explain_fits steps) ↔ (x.outcome ≡ match_matched steps)
  pub unfit : (steps : ℕ) → ((far : Failure) × (near : Failure) × (y.outcome ≡ explain_unfit steps far near)) ↔ (x.outcome ≡ match_not_matched steps)
  pub exhausted_too : (n steps : ℕ) → (y.outcome ≡ explain_exhausted n steps) ↔ (x.outcome ≡ match_exhausted n steps)
