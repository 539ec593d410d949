-- The demands on successive matches (02, request g), sentence by sentence, as statements over tries and derivations; DemandsHold proves them for all
-- inputs.
--
-- A try is a start, and whether the empty end is barred there. As in Demands, n and m are starts, t and u states in which the rule's end is
-- reached, j a number of steps, x and y readings, as rows. A search begins at `from`; `barred` says that the match before it was empty.
-- docs/REFERENCE.md, 16.4, 16.8
use Rattle.std.specs.Prelude.{◌≡◌, List, [], ◌∷◌, ◌⊎◌, ◌↔◌, Bool, true, false, ℕ, suc, ◌+◌, ◌-◌, ◌*◌, ◌≤◌, ◌<◌, length, get_or, take, eqb}
use Rattle.syntax.specs.Limits.{row_length}
use Rattle.syntax.specs.Tree.{Rule}
use Rattle.semantics.specs.States.{Before, State, Row, row}
use Rattle.semantics.specs.Derivations.{Derivation}
use Rattle.semantics.specs.Walk.{Trace, trace, Reaches}
use Rattle.semantics.specs.Answers.{complete, full, exhausted_at, Listing}
use Rattle.semantics.specs.Calls.{Call, Return, MatchOutcome, match_matched, match_not_matched, match_exhausted, ListOutcome, list_complete, list_exhausted, list_refused, room}
use Rattle.semantics.specs.Demands.{In, steps_before, Accepted, Demand1, EndsWithin, Overruns, Reading, step_limit, TellsRows, rows_reported}

-- Rows -----------------------------------------------------------------------------

-- where a match started and ended, and whether it was empty, by its row
abbrev pub row_start : Row → ℕ
row_start x = get_or x 0 0

abbrev pub row_end : Row → ℕ
row_end x = get_or x 1 0

abbrev pub empty_row : Row → Bool
empty_row x = eqb (row_start x) (row_end x)

-- "each search starts where the last match ended": where the search behind these rows starts, if that before them started at `from`
abbrev pub end_behind : (from : ℕ) → List Row → ℕ
end_behind from [] = from
end_behind from (x ∷ rows) = end_behind (row_end x) rows

-- "after an empty match": whether the last of these rows was one, or `barred` if there is none
abbrev pub empty_behind : (barred : Bool) → List Row → Bool
empty_behind barred [] = barred
empty_behind barred (x ∷ rows) = empty_behind (empty_row x) rows

-- y comes after x: it does not overlap it, and not both are empty at one place
pub record Follows (x y : Row) : Type 0 where
  pub behind : row_end x ≤ row_start y
  pub not_both_empty : ¬ ((empty_row x ≡ true) × (empty_row y ≡ true) × (row_end x ≡ row_start y))

abbrev pub InTurn : List Row → Type 0
InTurn [] = Unit {0}
InTurn (x ∷ l) = ((y : Row) → In y l → Follows x y) × InTurn l

-- the steps of all walks from start n up to start m
unfoldable pub steps_between : (ℕ → Trace) → ℕ → ℕ → ℕ
steps_between walk_from n m = steps_before walk_from m - steps_before walk_from n

-- A search ---------------------------------------------------------------------------

-- "after an empty match the next one may not be empty at that same place"
abbrev pub Barred : (from : ℕ) (barred : Bool) → ℕ → State → Type 0
Barred from barred n t = (barred ≡ true) × (n ≡ from) × (t.at ≡ from)

-- a start that the search tries: "each search starts where the last match ended"
abbrev pub SearchStart : List ℕ → (from : ℕ) → ℕ → Type 0
SearchStart sub from n = (from ≤ n) × (n ≤ length sub)

module _ (sub : List ℕ) (r : Rule) (from : ℕ) (barred : Bool) where
  pub record Allowed (n : ℕ) (t : State) : Type 0 where
    pub derives : Derivation sub r n t
    pub not_barred : ¬ Barred from barred n t

  -- of all that are allowed from n, the first by priority
  pub record FirstAllowed (n : ℕ) (t : State) : Type 0 where
    pub allowed : Allowed n t
    pub first : (u : State) → Allowed n u → (t ≡ u) ⊎ Before t.path u.path

module _ (sub : List ℕ) (r : Rule) (budget : ℕ) where
  module _ (from : ℕ) (barred : Bool) where
    -- n is tried in vain: nothing is allowed, and its walk ends within the budget. "a barred end costs its step and the walk goes on": whether the end
    -- is barred or not, a try's steps are those of the walk from its start
    pub record InVain (n : ℕ) : Type 0 where
      pub none_allowed : (t : State) → ¬ Allowed sub r from barred n t
      pub ends_within : EndsWithin sub r budget n

    -- a match is found: the first derivation by priority among those allowed at the leftmost start that has an allowed one
    pub record SearchMatched (n : ℕ) (t : State) : Type 0 where
      pub start : SearchStart sub from n
      pub leftmost : (m : ℕ) → from ≤ m → m < n → InVain m
      pub first_by_priority : FirstAllowed sub r from barred n t
      -- its end is reached within the budget, which "holds afresh for each try"
      pub in_time : (j : ℕ) × (j < budget) × Reaches (trace sub r n) j t

    -- the first try that needs a step beyond its budget before it reaches an allowed end
    pub record SearchExhausted (n : ℕ) : Type 0 where
      pub start : SearchStart sub from n
      pub first_such : (m : ℕ) → from ≤ m → m < n → InVain m
      pub needs : Overruns sub r budget n
      pub no_end : (j : ℕ) (t : State) → j < budget → Reaches (trace sub r n) j t → Barred from barred n t

    abbrev pub SearchNotMatched : Type 0
    SearchNotMatched = (n : ℕ) → SearchStart sub from n → InVain n

    -- x is the row of the match that is found, after so many steps
    pub record Finds (x : Row) (steps : ℕ) : Type 0 where
      pub n : ℕ
      pub t : State
      pub found : SearchMatched n t
      pub is : x ≡ row n t
      pub j : ℕ
      pub reaches : Reaches (trace sub r n) j t
      pub cost : steps ≡ steps_between (trace sub r) from n + suc j

  -- Successive matches --------------------------------------------------------------------

  -- "each search starts where the last match ended, and after an empty match the next one may not be empty at that same place": the rows that the
  -- searches find from one on, and their steps
  abbrev pub Successive : (from : ℕ) (barred : Bool) → List Row → ℕ → Type 0
  Successive from barred [] steps = steps ≡ 0
  Successive from barred (x ∷ rows) steps = (now : ℕ) × (later : ℕ) × Finds from barred x now × Successive (row_end x) (empty_row x) rows later × (steps ≡ now + later)

  -- l is what successive matches from a search on yield, with a limit of rows
  pub record ScansFrom (from : ℕ) (barred : Bool) (limit : ℕ) (l : Listing) : Type 0 where
    -- the steps of the searches that found a row
    pub spent : ℕ
    pub successive : Successive from barred l.rows spent
    pub rows_fit : length l.rows ≤ limit
    -- "It yields rows like the listing's": each is a reading; they come in order and do not overlap,
    pub readings : (x : Row) → In x l.rows → Reading sub r x
    pub in_turn : InTurn l.rows
    -- "with the same 'full' and 'exhausted' endings". Of the search behind the last row: exhausted exactly when a try needs a step beyond its budget
    -- before it reaches an allowed end,
    pub exhausted_exactly : (n : ℕ) → (l.ending ≡ exhausted_at n) ↔ SearchExhausted (end_behind from l.rows) (empty_behind barred l.rows) n
    -- full exactly when a further match is found, which has no row left,
    pub full_exactly : (l.ending ≡ full) ↔ ((n : ℕ) × (t : State) × SearchMatched (end_behind from l.rows) (empty_behind barred l.rows) n t)
    pub full_rows : l.ending ≡ full → length l.rows ≡ limit
    -- complete exactly when all starts are tried in vain.
    pub complete_exactly : (l.ending ≡ complete) ↔ SearchNotMatched (end_behind from l.rows) (empty_behind barred l.rows)
    -- 01's "Every answer and listing reports its steps, the sum over the starts begun", here over all tries; of a full one, "that step counted"
    pub steps_exhausted : (n : ℕ) → l.ending ≡ exhausted_at n → l.steps ≡ spent + (steps_between (trace sub r) (end_behind from l.rows) n + budget)
    pub steps_full : (x : Row) (last : ℕ) → l.ending ≡ full → Finds (end_behind from l.rows) (empty_behind barred l.rows) x last → l.steps ≡ spent + last
    pub steps_complete : l.ending ≡ complete → l.steps ≡ spent + steps_between (trace sub r) (end_behind from l.rows) (suc (length sub))

  -- the first search starts at 0, and nothing is barred
  abbrev pub ScanDemand : (limit : ℕ) → Listing → Type 0
  ScanDemand = ScansFrom 0 false

-- The whole of a call ------------------------------------------------------------------------

-- what a call for successive matches of a rule that is not refused returns
pub record ScanAnswers (c : Call) (r : Rule) (groups : ℕ) (x : Return ListOutcome) : Type 0 where
  pub scan : Listing
  pub demand : ScanDemand c.subject r c.budget (room c.result_area) scan
  -- "so the bound on reported steps doubles"
  pub steps_bounded : scan.steps ≤ 2 * step_limit c
  pub tells : TellsRows c groups scan x

pub record ScanDemands (c : Call) (x : Return ListOutcome) : Type 0 where
  pub demand_1 : Demand1 list_refused row_length c x
  pub answers : (r : Rule) (groups : ℕ) → Accepted row_length c r groups → ScanAnswers c r groups x

-- x is what a match of the same inputs returns and y what successive matches do, neither refused: the first match is the match, and where there is none,
-- all is told as the match tells it, with its steps
pub record ScanAgrees (x : Return MatchOutcome) (y : Return ListOutcome) : Type 0 where
  pub matched_exactly : ((steps : ℕ) × (x.outcome ≡ match_matched steps)) ↔ (0 < rows_reported y.outcome)
  pub first_row : 0 < rows_reported y.outcome → take row_length x.result_area ≡ take row_length y.result_area
  pub not_matched_exactly : (steps : ℕ) → (x.outcome ≡ match_not_matched steps) ↔ (y.outcome ≡ list_complete 0 steps)
  pub exhausted_exactly : (n steps : ℕ) → (x.outcome ≡ match_exhausted n steps) ↔ (y.outcome ≡ list_exhausted n 0 steps)
