-- The demands of CheckDemands hold, for all inputs: 02's request m), of any bytes that are sent, and back.
-- docs/REFERENCE.md, 16.10
use Rattle.std.specs.Prelude.{◌≡◌, List, ℕ, ◌≤◌, length}
use Rattle.std.proofs.Math.Option.{none, some}
use Rattle.syntax.specs.Limits.{row_length}
use Rattle.syntax.specs.Tree.{Rule}
use Rattle.syntax.specs.Checkable.{unfollowed, crowded}
use Rattle.semantics.specs.States.{Row}
use Rattle.semantics.specs.Calls.{Call, Return, ListOutcome, room}
use Rattle.semantics.specs.Proposals.{exhausts, check}
use Rattle.semantics.specs.Checks.{CheckOutcome, check_call}
use Rattle.semantics.specs.Demands.{In, Accepted, Reading, ListAnswers}
use Rattle.semantics.specs.CheckDemands.{CheckDemand, CheckDemands, Proposed}
use Rattle.semantics.proofs.Laws.Refusals.{subject-enough}
use Rattle.semantics.proofs.Laws.ListCalls.{rows-read}
use Rattle.semantics.proofs.Laws.Checks.{check-demand, check-stays}
use Rattle.semantics.proofs.Laws.CheckCalls.{form-placed, crowd-placed, check-demand_1, check-answers, check_call-settles}
use Rattle.semantics.proofs.Laws.Proposing.{reading-proposed}

-- Of any tree without l)'s forms and any bytes: accepted exactly when the choices are those of a derivation, and the row is that derivation's
pub check-demand-holds : (sub proposal : List ℕ) (r : Rule) (budget : ℕ) → unfollowed r ≡ none → CheckDemand sub proposal r budget (check sub r budget proposal)
check-demand-holds sub proposal r budget f = check-demand sub r budget f proposal

-- Of any call
pub check-meets-demands : (proposal : List ℕ) (c : Call) → CheckDemands proposal c (check_call proposal c)
check-meets-demands proposal c = record { demand_1 = check-demand_1 proposal c; answers = check-answers proposal c }

-- the places of 35 and 36 are within the rule, as that of every other refusal
pub form-within : (c : Call) (r : Rule) (groups place : ℕ) → Accepted row_length c r groups → unfollowed r ≡ some place → place ≤ length c.rule
form-within = form-placed

pub crowd-within : (c : Call) (r : Rule) (groups bar : ℕ) → Accepted row_length c r groups → crowded r ≡ some bar → bar ≤ length c.rule
crowd-within = crowd-placed

-- nothing else meets them
pub check-settled : (proposal : List ℕ) (c : Call) (x : Return CheckOutcome) → CheckDemands proposal c x → x ≡ check_call proposal c
check-settled proposal c x h = check_call-settles proposal c x (check_call proposal c) h (check-meets-demands proposal c)

-- The way back: "every reading of a listing, of a rule that check does not refuse, has a proposal that is accepted, within a budget of its own steps"
pub readings-proposed : (c : Call) (r : Rule) (groups : ℕ) → Accepted row_length c r groups → crowded r ≡ none → (x : Row) → Reading c.subject r x → Proposed c.subject r x
readings-proposed c r groups a e x w = reading-proposed c.subject r (subject-enough row_length c a.faultless) e x w

pub rows-proposed : (c : Call) (r : Rule) (groups : ℕ) → Accepted row_length c r groups → crowded r ≡ none → (y : Return ListOutcome) → (v : ListAnswers c r groups y) → (x : Row) → In x v.listing.rows → Proposed c.subject r x
rows-proposed c r groups a e y v x i = readings-proposed c r groups a e x (rows-read c.subject r c.budget (room c.result_area) v.listing v.demand_3 x i)

-- Request n), of a check: "a reading" and "no reading" stay at every larger budget
pub check-stays-told : (sub proposal : List ℕ) (r : Rule) (budget more : ℕ) → budget ≤ more → ((n : ℕ) → ¬ ((check sub r budget proposal).finding ≡ exhausts n)) → check sub r more proposal ≡ check sub r budget proposal
check-stays-told sub proposal r budget more l f = check-stays sub r proposal budget more l f
