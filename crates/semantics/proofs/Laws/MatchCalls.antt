-- A match that is not refused returns `answer` of its rule's tree, and writes its row.
use Rattle.std.specs.Prelude.{◌≡◌, refl, ℕ}
use Rattle.std.proofs.Common.{ap, ◌∙◌}
use Rattle.syntax.specs.declared.Reason.{Reason}
use Rattle.syntax.specs.Limits.{rule_area_need, row_length}
use Rattle.syntax.specs.Tree.{Rule}
use Rattle.syntax.specs.WellFormed.{WellFormed}
use Rattle.syntax.specs.Reading.{names_of}
use Rattle.syntax.specs.Laws.Formation.{well-formed}
use Rattle.semantics.specs.States.{State, row}
use Rattle.semantics.specs.NameIndex.{name_index}
use Rattle.semantics.specs.Answers.{Outcome, matched, not_matched, exhausted, Answer, answer}
use Rattle.semantics.specs.Calls.{Call, work_area_need, over, cleared, leaving, match_matched, match_not_matched, match_exhausted, match_refused, match_returns, match_rule, match_call}
use Rattle.semantics.specs.Demands.{Accepted, Written, RowFacts, MatchAnswers, Demand1}
use Rattle.semantics.proofs.Laws.Cases.{clash}
use Rattle.semantics.proofs.Laws.Matches.{demand_2}
use Rattle.semantics.proofs.Laws.Steps.{match-steps}
use Rattle.semantics.proofs.Laws.Rows.{row-facts}
use Rattle.semantics.proofs.Laws.Refusals.{result_area-enough}
use Rattle.semantics.proofs.Laws.Areas.{over_nothing, written}
use Rattle.semantics.proofs.Laws.Calls.{call-answered, demand_1}

-- the tree of an accepted call is well formed
pub accepted-formed : (c : Call) (r : Rule) (groups : ℕ) → Accepted row_length c r groups → WellFormed groups r
accepted-formed c r groups a = rw a.reads at (well-formed c.rule c.flags)

never : (c : Call) (o : Outcome) (steps p : ℕ) (w : Reason) → ¬ ((match_returns c o steps).outcome ≡ match_refused p w)
unfolding match_returns leaving
never c (matched n t) steps p w e = clash (cc)
never c not_matched steps p w e = clash (cc)
never c (exhausted n) steps p w e = clash (cc)

clears : (c : Call) (o : Outcome) (steps : ℕ) → ((match_returns c o steps).rule_area ≡ cleared rule_area_need c.rule_area) × ((match_returns c o steps).work_area ≡ cleared (work_area_need c.budget) c.work_area) × ((match_returns c o steps).names ≡ over (name_index (names_of c.rule c.flags)) c.names)
unfolding match_returns leaving
clears c (matched n t) steps = (refl, refl, refl)
clears c not_matched steps = (refl, refl, refl)
clears c (exhausted n) steps = (refl, refl, refl)

pub match-demand_1 : (c : Call) → Demand1 match_refused row_length c (match_call c)
unfolding match_call match_rule
match-demand_1 c = demand_1 match_refused row_length match_rule (λ p q v w e. (cc, cc)) (λ d r p w. never d _ _ p w) (λ d r. clears d _ _) c

module _ (c : Call) (r : Rule) (groups : ℕ) (a : Accepted row_length c r groups) where
  abbrev told : Answer
  told = answer c.subject r c.budget

  match_is : match_call c ≡ match_returns c told.outcome told.steps
  unfolding match_call match_rule
  match_is = call-answered match_refused row_length match_rule c r groups a

  match-as : (o : Outcome) → told.outcome ≡ o → match_call c ≡ match_returns c o told.steps
  match-as o e = match_is ∙ ap (λ (x : Outcome). match_returns c x told.steps) e

  -- the row of a match keeps 01's rules
  pub match-row : (n : ℕ) (t : State) → told.outcome ≡ matched n t → RowFacts c.subject groups (row n t)
  match-row n t e =
      let w = ((demand_2 c.subject r c.budget).matched_exactly n t).0 e in
      let f = accepted-formed c r groups a in
      row-facts c.subject n groups f.few r f.proper w.start t w.first_by_priority.derives

  pub returns-matched : (n : ℕ) (t : State) → told.outcome ≡ matched n t → ((match_call c).outcome ≡ match_matched told.steps) × Written (row n t) c.result_area (match_call c).result_area
  unfolding match_returns leaving
  returns-matched n t e = rw (match-as (matched n t) e) (refl, written (row n t) c.result_area (rw (match-row n t e).size (result_area-enough row_length c a.faultless)))

  pub returns-not_matched : told.outcome ≡ not_matched → ((match_call c).outcome ≡ match_not_matched told.steps) × ((match_call c).result_area ≡ c.result_area)
  unfolding match_returns leaving
  returns-not_matched e = rw (match-as not_matched e) (refl, over_nothing c.result_area)

  pub returns-exhausted : (n : ℕ) → told.outcome ≡ exhausted n → ((match_call c).outcome ≡ match_exhausted n told.steps) × ((match_call c).result_area ≡ c.result_area)
  unfolding match_returns leaving
  returns-exhausted n e = rw (match-as (exhausted n) e) (refl, over_nothing c.result_area)

  pub match-answers : MatchAnswers c r groups (match_call c)
  match-answers = record {
    answer = told;
    demand_2 = demand_2 c.subject r c.budget;
    steps_bounded = match-steps c.subject r c.budget told (demand_2 c.subject r c.budget);
    when_matched = λ n t e. ((returns-matched n t e).0, (returns-matched n t e).1, match-row n t e);
    when_not_matched = returns-not_matched;
    when_exhausted = returns-exhausted;
  }
