-- A call for successive matches that is not refused returns `scan` of its rule's tree, and writes its rows one after another.
use Rattle.std.specs.Prelude.{◌≡◌, refl, ℕ}
use Rattle.syntax.specs.Limits.{row_length}
use Rattle.syntax.specs.Tree.{Rule}
use Rattle.semantics.specs.States.{Row}
use Rattle.semantics.specs.Answers.{Listing}
use Rattle.semantics.specs.Scans.{scan}
use Rattle.semantics.specs.Calls.{Call, leaving, list_refused, list_returns, room, scan_rule, scan_call}
use Rattle.semantics.specs.Demands.{In, Accepted, RowFacts, Demand1}
use Rattle.semantics.specs.ScanDemands.{ScanDemand, ScanAnswers}
use Rattle.semantics.proofs.Laws.Scans.{scan-demand}
use Rattle.semantics.proofs.Laws.ScanSteps.{scan_steps}
use Rattle.semantics.proofs.Laws.Calls.{call-answered, demand_1}
use Rattle.semantics.proofs.Laws.ListCalls.{never-refuses, reading-right, tells-rows}

pub scan-demand_1 : (c : Call) → Demand1 list_refused row_length c (scan_call c)
unfolding scan_call scan_rule leaving
scan-demand_1 c = demand_1 list_refused row_length scan_rule (λ p q v w e. (cc, cc)) (λ d r p w. never-refuses _ _ _ p w) (λ d r. (refl, refl, refl)) c

module _ (c : Call) (r : Rule) (groups : ℕ) (a : Accepted row_length c r groups) where
  abbrev scanned : Listing
  scanned = scan c.subject r c.budget (room c.result_area)

  pub scan-returns : scan_call c ≡ list_returns c scanned
  unfolding scan_call scan_rule
  scan-returns = call-answered list_refused row_length scan_rule c r groups a

  meets : ScanDemand c.subject r c.budget (room c.result_area) scanned
  meets = scan-demand c.subject r c.budget (room c.result_area)

  pub scan-rows : (x : Row) → In x scanned.rows → RowFacts c.subject groups x
  scan-rows x i = reading-right c r groups a x (meets.readings x i)

  pub scan-answers : ScanAnswers c r groups (scan_call c)
  scan-answers = record {
    scan = scanned;
    demand = meets;
    steps_bounded = scan_steps c.subject r c.budget (room c.result_area) scanned meets;
    tells = rw scan-returns (tells-rows c groups scanned meets.rows_fit scan-rows);
  }
