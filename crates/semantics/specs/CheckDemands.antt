-- The demands on the check of a proposed reading (02, request m), sentence by sentence, as statements over derivations; CheckDemandsHold proves them for
-- all inputs: any bytes may be sent, "whoever sent it".
--
-- As in Demands, n is a start, t a state in which the rule's end is reached, x a reading, as a row.
-- docs/REFERENCE.md, 16.10
use Rattle.std.specs.Prelude.{◌≡◌, List, ◌∷◌, map, ◌↔◌, Bool, ℕ, suc, ◌+◌, ◌*◌, ◌/◌, ◌%◌, ◌≤◌, ◌<◌}
use Rattle.std.proofs.Common.{inl, inr}
use Rattle.std.proofs.Math.Option.{none, some}
use Rattle.syntax.specs.declared.Greed.{Greed}
use Rattle.syntax.specs.declared.Most.{Most}
use Rattle.syntax.specs.declared.Reason.{Reason}
use Rattle.syntax.specs.declared.Reason.TheVariants.{HeldOrLook, TooManyBranches}
use Rattle.syntax.specs.Limits.{byte_limit, row_length}
use Rattle.syntax.specs.Tree.{Rule, empty, item, seq, alt, group, repeat, held, look, Branches, one, also, branch_count}
use Rattle.syntax.specs.Checkable.{unfollowed, crowded}
use Rattle.semantics.specs.States.{branch, code, State, starting, chose, Row, row}
use Rattle.semantics.specs.Items.{toll}
use Rattle.semantics.specs.Derivations.{Rounds, stop, turn, Derives, Picks, Derivation}
use Rattle.semantics.specs.Calls.{Call, Return}
use Rattle.semantics.specs.Proposals.{Trail, step_then, arrives, strays, path_of, a_reading, no_reading, exhausts, Check}
use Rattle.semantics.specs.Checks.{CheckOutcome, check_reading, check_no_reading, check_exhausted, check_refused, check_call}
use Rattle.semantics.specs.Demands.{In, Start, Fault, Refuses, Accepted, Written, Regular, RowFacts}

-- The steps of a derivation -----------------------------------------------------------

-- "One step each: .. a repeat decision reached": one for each round and one for going on
unfoldable pub round_steps : {Body : State → State → Type 0} {least : ℕ} {most : Most} {g : Greed} {n : ℕ} {idle : Bool} {s t : State} → ((u v : State) → Body u v → ℕ) → Rounds Body least most g n idle s t → ℕ
round_steps cost (stop o) = 1
round_steps cost (turn {t = t} {u = u} a b r) = suc (cost t u b + round_steps cost r)

module _ (sub : List ℕ) where
  unfoldable mutual
    -- "steps along that one path": those of the items, groups, branches and decisions that the derivation itself has
    pub steps_along : (r : Rule) (s t : State) → Derives sub r s t → ℕ
    steps_along empty s t d = 0
    steps_along (item place i) s t d = suc (toll sub i s)
    steps_along (seq a b) s t d = steps_along a s d.0 d.1 + steps_along b d.0 t d.2
    steps_along (alt bs bar b) s t (inl d) = steps_within bs s t d
    steps_along (alt bs bar b) s t (inr d) = suc (steps_along b (chose (branch (branch_count bs)) s) t d)
    steps_along (group n a) s t d = suc (steps_along a s d.0 d.1 + 1)
    steps_along (repeat place least most g a) s t d = round_steps (λ u v e. steps_along a u v e) d
    -- of l)'s forms, which are not followed, nothing is asked
    steps_along (held place a) s t d = 0
    steps_along (look place negative a) s t d = 0

    pub steps_within : (bs : Branches) (s t : State) → Picks sub bs s t → ℕ
    steps_within (one a) s t d = suc (steps_along a (chose (branch 0) s) t d)
    steps_within (also bs bar b) s t (inl d) = steps_within bs s t d
    steps_within (also bs bar b) s t (inr d) = suc (steps_along b (chose (branch (branch_count bs)) s) t d)

-- all steps of a derivation of the whole rule: its end costs one
abbrev pub own_steps : (sub : List ℕ) (r : Rule) (n : ℕ) (t : State) → Derivation sub r n t → ℕ
own_steps sub r n t d = suc (steps_along sub r (starting n) t d)

-- the steps of a path, whether it arrives or not
unfoldable pub steps_in : Trail → ℕ
steps_in (step_then p) = suc (steps_in p)
steps_in (arrives t cs) = 0
steps_in strays = 0

-- The answer --------------------------------------------------------------------------

module _ (sub : List ℕ) (proposal : List ℕ) where
  -- what was sent: "start as two bytes, low first, then one byte a choice", with a start that the line has
  pub record Sent (n : ℕ) (choices : List ℕ) : Type 0 where
    pub low : ℕ
    pub high : ℕ
    pub is : proposal ≡ low ∷ high ∷ choices
    pub two_bytes : n ≡ low + 256 * high
    pub start : Start sub n

  module _ (r : Rule) (budget : ℕ) where
    -- "these choices, all used, make a derivation of that rule on that line", within the budget
    pub record ReadingSent (n : ℕ) (t : State) : Type 0 where
      pub sent : Sent n (map code t.path)
      pub derives : Derivation sub r n t
      pub in_time : own_steps sub r n t derives ≤ budget

    -- "it needs one beyond its budget"
    pub record NeedsMore (n : ℕ) : Type 0 where
      pub choices : List ℕ
      pub sent : Sent n choices
      pub needs : budget < steps_in (path_of sub r n choices)

    pub record CheckDemand (a : Check) : Type 0 where
      -- "answers exhausted when it needs one beyond its budget.
      pub exhausted_exactly : (n : ℕ) → (a.finding ≡ exhausts n) ↔ NeedsMore n
      -- Otherwise it accepts exactly when these choices, all used, make a derivation of that rule on that line, and then gives its reading":
      -- the start and the state at the derivation's end are those of the reading
      pub accepted_exactly : (n : ℕ) (t : State) → (a.finding ≡ a_reading n t) ↔ ReadingSent n t
      pub otherwise_none : (a.finding ≡ no_reading) ↔ (((n : ℕ) → ¬ NeedsMore n) × ((n : ℕ) (t : State) → ¬ ReadingSent n t))
      -- "counts steps along that one path": 01's "Every answer .. reports its steps"
      pub steps_accepted : (n : ℕ) (t : State) → (w : ReadingSent n t) → a.steps ≡ own_steps sub r n t w.derives
      pub steps_exhausted : (n : ℕ) → a.finding ≡ exhausts n → a.steps ≡ budget
      -- of "no reading" those up to where it was seen; without a start, none
      pub steps_none : a.finding ≡ no_reading → (n : ℕ) (choices : List ℕ) → Sent n choices → a.steps ≡ steps_in (path_of sub r n choices)
      pub steps_startless : ((n : ℕ) (choices : List ℕ) → ¬ Sent n choices) → a.steps ≡ 0

-- The whole of a call --------------------------------------------------------------------

-- the refusal that is named for an input: those of a match, and "After the rule's own refusals, 35 .., then 36"
pub data CheckRefuses (c : Call) : ℕ → Reason → Type 0 where
  like_match : {place : ℕ} {why : Reason} → Refuses row_length c place why → CheckRefuses c place why
  held_or_look : {r : Rule} {groups place : ℕ} → Accepted row_length c r groups → unfollowed r ≡ some place → CheckRefuses c place HeldOrLook
  too_many_branches : {r : Rule} {groups bar : ℕ} → Accepted row_length c r groups → unfollowed r ≡ none → crowded r ≡ some bar → CheckRefuses c bar TooManyBranches

-- none is named
pub record Checkable (c : Call) (r : Rule) (groups : ℕ) : Type 0 where
  pub accepted : Accepted row_length c r groups
  pub followed : unfollowed r ≡ none
  pub few_branches : crowded r ≡ none

-- what a check of a rule that is not refused returns
pub record CheckAnswers (proposal : List ℕ) (c : Call) (r : Rule) (groups : ℕ) (x : Return CheckOutcome) : Type 0 where
  pub check : Check
  pub demand : CheckDemand c.subject proposal r c.budget check
  pub steps_bounded : check.steps ≤ c.budget
  -- it "gives its reading"
  pub when_accepted : (n : ℕ) (t : State) → check.finding ≡ a_reading n t → (x.outcome ≡ check_reading check.steps) × Written (row n t) c.result_area x.result_area × RowFacts c.subject groups (row n t)
  -- "'no reading', with no row"
  pub when_none : check.finding ≡ no_reading → (x.outcome ≡ check_no_reading check.steps) × (x.result_area ≡ c.result_area)
  pub when_exhausted : (n : ℕ) → check.finding ≡ exhausts n → (x.outcome ≡ check_exhausted n check.steps) × (x.result_area ≡ c.result_area)

pub record CheckDemands (proposal : List ℕ) (c : Call) (x : Return CheckOutcome) : Type 0 where
  pub demand_1 : Regular check_refused (Fault row_length c) (CheckRefuses c) (Checkable c) c x
  pub answers : (r : Rule) (groups : ℕ) → Checkable c r groups → CheckAnswers proposal c r groups x

-- The way back ------------------------------------------------------------------------

-- the bytes that propose a derivation: its start, low byte first, and its choices
unfoldable pub proposal_of : ℕ → State → List ℕ
proposal_of n t = n % 256 ∷ n / 256 ∷ map code t.path

-- x is the reading of a derivation whose proposal is of bytes, and is accepted by every check of that rule and line that has the derivation's own steps in
-- its budget
pub record Proposed (sub : List ℕ) (r : Rule) (x : Row) : Type 0 where
  pub n : ℕ
  pub t : State
  pub derives : Derivation sub r n t
  pub is : x ≡ row n t
  pub bytes : (b : ℕ) → In b (proposal_of n t) → b ≤ byte_limit
  pub accepted : (c : Call) (groups : ℕ) → Checkable c r groups → c.subject ≡ sub → own_steps sub r n t derives ≤ c.budget
      → ((check_call (proposal_of n t) c).outcome ≡ check_reading (own_steps sub r n t derives)) × Written x c.result_area (check_call (proposal_of n t) c).result_area
