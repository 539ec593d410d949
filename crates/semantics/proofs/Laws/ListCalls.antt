-- A listing that is not refused returns `listing` of its rule's tree, and writes its rows one after another, as every call does that gives rows.
use Rattle.std.specs.Prelude.{◌≡◌, refl, List, ℕ, ◌≤◌, length}
use Rattle.std.proofs.Common.{inl, inr, arith}
use Rattle.syntax.specs.declared.Reason.{Reason}
use Rattle.syntax.specs.Limits.{row_length}
use Rattle.syntax.specs.Tree.{Rule}
use Rattle.semantics.specs.States.{Row}
use Rattle.semantics.specs.Answers.{Ending, complete, full, exhausted_at, Listing, listing}
use Rattle.semantics.specs.Calls.{Call, leaving, list_refused, list_outcome, list_returns, joined, room, list_rule, list_call}
use Rattle.semantics.specs.Demands.{In, Start, ReachedBefore, Demand3, Reading, Accepted, RowFacts, TellsRows, ListAnswers, Demand1}
use Rattle.semantics.proofs.Laws.Cases.{clash}
use Rattle.semantics.proofs.Laws.Matches.{reaches-derives}
use Rattle.semantics.proofs.Laws.Listings.{demand_3}
use Rattle.semantics.proofs.Laws.Steps.{listing-steps}
use Rattle.semantics.proofs.Laws.Rows.{row-facts}
use Rattle.semantics.proofs.Laws.Areas.{written, room-holds, joined_length}
use Rattle.semantics.proofs.Laws.Calls.{call-answered, demand_1}
use Rattle.semantics.proofs.Laws.MatchCalls.{accepted-formed}

pub never-refuses : (e : Ending) (rows steps p : ℕ) (w : Reason) → ¬ (list_outcome e rows steps ≡ list_refused p w)
unfolding list_outcome
never-refuses complete rows steps p w e = clash (cc)
never-refuses full rows steps p w e = clash (cc)
never-refuses (exhausted_at n) rows steps p w e = clash (cc)

pub list-demand_1 : (c : Call) → Demand1 list_refused row_length c (list_call c)
unfolding list_call list_rule leaving
list-demand_1 c = demand_1 list_refused row_length list_rule (λ p q v w e. (cc, cc)) (λ d r p w. never-refuses _ _ _ p w) (λ d r. (refl, refl, refl)) c

-- A call that gives rows ------------------------------------------------------------

-- readings of its rule keep 01's rules
pub reading-right : (c : Call) (r : Rule) (groups : ℕ) → Accepted row_length c r groups → (x : Row) → Reading c.subject r x → RowFacts c.subject groups x
reading-right c r groups a x w =
    let f = accepted-formed c r groups a in
    rw w.is (row-facts c.subject w.n groups f.few r f.proper w.start w.t w.derives)

pub tells-rows : (c : Call) (groups : ℕ) (l : Listing) → length l.rows ≤ room c.result_area → ((x : Row) → In x l.rows → RowFacts c.subject groups x) → TellsRows c groups l (list_returns c l)
unfolding leaving list_outcome
tells-rows c groups l fit right = record {
  when_complete = λ e. rw e;
  when_full = λ e. rw e;
  when_exhausted = λ n e. rw e;
  rows_written = written (joined l.rows) c.result_area (rw (joined_length l.rows (λ x i. (right x i).size)) (room-holds (length l.rows) c.result_area fit));
  rows_right = right;
}

-- A listing -------------------------------------------------------------------------

-- each row is a reading
module _ (sub : List ℕ) (r : Rule) (budget limit : ℕ) where
  reached-reads : (n j : ℕ) (x : Row) → Start sub n → ReachedBefore sub r n j x → Reading sub r x
  reached-reads n j x s b =
      let l : Start sub b.m = elim b.earlier [ inl h ↦ omega arith | inr h ↦ omega arith ] in
      record { n = b.m; t = b.t; start = l; derives = reaches-derives sub r b.m b.k b.t l b.reaches; is = b.is }

  pub rows-read : (l : Listing) → Demand3 sub r budget limit l → (x : Row) → In x l.rows → Reading sub r x
  rows-read l d x i = go l.ending refl
    where
      go : (e : Ending) → l.ending ≡ e → Reading sub r x
      go complete e = (d.complete_rows e x).0 i
      go full e = let w = d.cut_by_room.0 e in reached-reads w.0 w.1 x w.2.full_at.start ((d.rows_before_room w.0 w.1 w.2 x).0 i)
      go (exhausted_at n) e = reached-reads n budget x ((d.cut_by_budget n).0 e).start ((d.rows_before_budget n e x).0 i)

module _ (c : Call) (r : Rule) (groups : ℕ) (a : Accepted row_length c r groups) where
  abbrev listed : Listing
  listed = listing c.subject r c.budget (room c.result_area)

  pub list-is : list_call c ≡ list_returns c listed
  unfolding list_call list_rule
  list-is = call-answered list_refused row_length list_rule c r groups a

  list-demand_3 : Demand3 c.subject r c.budget (room c.result_area) listed
  list-demand_3 = demand_3 c.subject r c.budget (room c.result_area)

  pub list-rows : (x : Row) → In x listed.rows → RowFacts c.subject groups x
  list-rows x i = reading-right c r groups a x (rows-read c.subject r c.budget (room c.result_area) listed list-demand_3 x i)

  pub list-answers : ListAnswers c r groups (list_call c)
  list-answers = record {
    listing = listed;
    demand_3 = list-demand_3;
    steps_bounded = listing-steps c.subject r c.budget (room c.result_area) listed list-demand_3;
    tells = rw list-is (tells-rows c groups listed list-demand_3.rows_fit list-rows);
  }
