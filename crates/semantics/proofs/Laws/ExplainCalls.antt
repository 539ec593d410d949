-- An explanation that is not refused returns `answer` of its rule's tree, and tells why where that is "not matched". So it agrees with a match of the
-- same inputs, which goes by the same answer.
use Rattle.std.specs.Prelude.{◌≡◌, refl, List, ℕ, length}
use Rattle.std.proofs.Math.Path.{ap}
use Rattle.std.proofs.Common.{◌∙◌, arith}
use Rattle.syntax.specs.declared.Reason.{Reason}
use Rattle.syntax.specs.Limits.{rule_area_need, row_length}
use Rattle.syntax.specs.Tree.{Rule}
use Rattle.syntax.specs.Reading.{names_of}
use Rattle.semantics.specs.States.{State}
use Rattle.semantics.specs.Walk.{trace}
use Rattle.semantics.specs.NameIndex.{name_index}
use Rattle.semantics.specs.Answers.{Outcome, matched, not_matched, exhausted, Answer, answer}
use Rattle.semantics.specs.Explanations.{Failure, failures, position, furthest, reach, closest, marks}
use Rattle.semantics.specs.Calls.{Call, work_area_need, over, cleared, Return, leaving, MatchOutcome, match_matched, match_not_matched, match_exhausted, match_call, ExplainOutcome, explain_fits, explain_unfit, explain_exhausted, explain_refused, markable, explain_returns, explain_rule, explain_call}
use Rattle.semantics.specs.Demands.{Start, Misses, Accepted, Demand1, NoDerivation, TellsWhy, ExplainAnswers, SameInputs, ExplanationAgrees}
use Rattle.semantics.proofs.Laws.Cases.{clash}
use Rattle.semantics.proofs.Laws.Matches.{demand_2}
use Rattle.semantics.proofs.Laws.Steps.{match-steps}
use Rattle.semantics.proofs.Laws.Misses.{HasMiss, nothing-failed, furthest-told, closest-told, furthest-at-end}
use Rattle.semantics.proofs.Laws.Explanations.{in-misses, first-failure, marks-of}
use Rattle.semantics.proofs.Laws.Areas.{over_nothing, written}
use Rattle.semantics.proofs.Laws.Calls.{call-answered, demand_1}
use Rattle.semantics.proofs.Laws.MatchCalls.{returns-matched, returns-not_matched, returns-exhausted}

never : (c : Call) (r : Rule) (o : Outcome) (steps p : ℕ) (w : Reason) → ¬ ((explain_returns c r o steps).outcome ≡ explain_refused p w)
unfolding explain_returns leaving
never c r (matched n t) steps p w e = clash (cc)
never c r not_matched steps p w e = clash (cc)
never c r (exhausted n) steps p w e = clash (cc)

clears : (c : Call) (r : Rule) (o : Outcome) (steps : ℕ) → ((explain_returns c r o steps).rule_area ≡ cleared rule_area_need c.rule_area) × ((explain_returns c r o steps).work_area ≡ cleared (work_area_need c.budget) c.work_area) × ((explain_returns c r o steps).names ≡ over (name_index (names_of c.rule c.flags)) c.names)
unfolding explain_returns leaving
clears c r (matched n t) steps = (refl, refl, refl)
clears c r not_matched steps = (refl, refl, refl)
clears c r (exhausted n) steps = (refl, refl, refl)

pub explain-demand_1 : (c : Call) → Demand1 explain_refused 0 c (explain_call c)
unfolding explain_call explain_rule
explain-demand_1 c = demand_1 explain_refused 0 explain_rule (λ p q v w e. (cc, cc)) (λ d r p w. never d r _ _ p w) (λ d r. clears d r _ _) c

module _ (c : Call) (r : Rule) (groups : ℕ) (a : Accepted 0 c r groups) where
  abbrev told : Answer
  told = answer c.subject r c.budget

  abbrev all : List Failure
  all = failures c.subject r

  explain-as : (o : Outcome) → told.outcome ≡ o → explain_call c ≡ explain_returns c r o told.steps
  unfolding explain_call explain_rule
  explain-as o e = call-answered explain_refused 0 explain_rule c r groups a ∙ ap (λ (x : Outcome). explain_returns c r x told.steps) e

  pub returns-fits : (n : ℕ) (t : State) → told.outcome ≡ matched n t → ((explain_call c).outcome ≡ explain_fits told.steps) × ((explain_call c).result_area ≡ c.result_area)
  unfolding explain_returns leaving
  returns-fits n t e = rw (explain-as (matched n t) e) (refl, over_nothing c.result_area)

  pub returns-exhausted_too : (n : ℕ) → told.outcome ≡ exhausted n → ((explain_call c).outcome ≡ explain_exhausted n told.steps) × ((explain_call c).result_area ≡ c.result_area)
  unfolding explain_returns leaving
  returns-exhausted_too n e = rw (explain-as (exhausted n) e) (refl, over_nothing c.result_area)

  pub returns-unfit : told.outcome ≡ not_matched → ((explain_call c).outcome ≡ explain_unfit told.steps (furthest all) (closest all)) × ((explain_call c).result_area ≡ over (marks c.subject r (closest all) (markable c)) c.result_area)
  unfolding explain_returns leaving
  returns-unfit e = rw (explain-as not_matched e) (refl, refl)

  no-derivation : told.outcome ≡ not_matched → (n : ℕ) → Start c.subject n → NoDerivation c.subject r n
  no-derivation e n l = ((demand_2 c.subject r c.budget).not_matched_exactly.0 e n l).0

  tells-why : told.outcome ≡ not_matched → TellsWhy c r told.steps (explain_call c)
  unfolding markable
  tells-why e =
      let none = no-derivation e in
      let m = marks c.subject r (closest all) (markable c) in
      let right = marks-of c.subject r (closest all) (markable c) in
      record {
        far = furthest all;
        near = closest all;
        told = (returns-unfit e).0;
        furthest = first-failure c.subject r position (furthest all) (furthest-told c.subject r none);
        closest = first-failure c.subject r reach (closest all) (closest-told c.subject r none);
        marks = m;
        marks_right = right;
        marks_written = rw (returns-unfit e).1 (written m c.result_area (omega (arith, right.size)));
      }

  -- what is told as the furthest failed at the line's end
  pub far-at-end : (steps : ℕ) (far near : Failure) → (explain_call c).outcome ≡ explain_unfit steps far near → far.at ≡ length c.subject
  far-at-end steps far near h = go told.outcome refl
    where
      go : (o : Outcome) → told.outcome ≡ o → far.at ≡ length c.subject
      go (matched m t) e = absurd (clash (cc (h, (returns-fits m t e).0)))
      go not_matched e = let q : furthest all ≡ far = cc (h, (returns-unfit e).0) in rw q at (furthest-at-end c.subject r (no-derivation e))
      go (exhausted m) e = absurd (clash (cc (h, (returns-exhausted_too m e).0)))

  -- where nothing failed in the walk from n, there is a derivation, so the answer is not "not matched"
  matches-unless : (n : ℕ) → Start c.subject n → ((k place at : ℕ) → ¬ Misses (trace c.subject r n) k place at) → ((m : ℕ) → ¬ ((explain_call c).outcome ≡ explain_exhausted m told.steps)) → (explain_call c).outcome ≡ explain_fits told.steps
  matches-unless n l quiet f = go told.outcome refl
    where
      none : ¬ HasMiss (trace c.subject r n)
      none m = let z = in-misses (trace c.subject r n) m.0 m.1 m.2 in quiet z.0 m.0 m.1 z.1

      go : (o : Outcome) → told.outcome ≡ o → (explain_call c).outcome ≡ explain_fits told.steps
      go (matched m t) e = (returns-fits m t e).0
      go not_matched e = let d = nothing-failed c.subject r n l none in absurd (no-derivation e n l d.0 d.1)
      go (exhausted m) e = absurd (f m (returns-exhausted_too m e).0)

  pub explain-answers : ExplainAnswers c r (explain_call c)
  explain-answers = record {
    answer = told;
    demand_2 = demand_2 c.subject r c.budget;
    steps_bounded = match-steps c.subject r c.budget told (demand_2 c.subject r c.budget);
    when_not_matched = tells-why;
    when_exhausted = returns-exhausted_too;
    when_matched = returns-fits;
    always_matches = matches-unless;
  }

-- The agreement with a match ---------------------------------------------------------

module _ (x : Return MatchOutcome) (y : Return ExplainOutcome) (steps : ℕ) where
  both-matched : x.outcome ≡ match_matched steps → y.outcome ≡ explain_fits steps → ExplanationAgrees x y
  both-matched p q = record {
    fits = λ k. (λ h. p ∙ ap match_matched (cc), λ h. q ∙ ap explain_fits (cc));
    unfit = λ k. (λ z. absurd (clash (cc (q, z.2))), λ h. absurd (clash (cc)));
    exhausted_too = λ n k. (λ h. absurd (clash (cc)), λ h. absurd (clash (cc)));
  }

  neither-matched : (far near : Failure) → x.outcome ≡ match_not_matched steps → y.outcome ≡ explain_unfit steps far near → ExplanationAgrees x y
  neither-matched far near p q = record {
    fits = λ k. (λ h. absurd (clash (cc)), λ h. absurd (clash (cc)));
    unfit = λ k. (λ z. p ∙ ap match_not_matched (cc (q, z.2)), λ h. (far, near, q ∙ ap (λ (i : ℕ). explain_unfit i far near) (cc)));
    exhausted_too = λ n k. (λ h. absurd (clash (cc)), λ h. absurd (clash (cc)));
  }

  both-exhausted : (m : ℕ) → x.outcome ≡ match_exhausted m steps → y.outcome ≡ explain_exhausted m steps → ExplanationAgrees x y
  both-exhausted m p q = record {
    fits = λ k. (λ h. absurd (clash (cc)), λ h. absurd (clash (cc)));
    unfit = λ k. (λ z. absurd (clash (cc (q, z.2))), λ h. absurd (clash (cc)));
    exhausted_too = λ n k. (λ h. (let e : m ≡ n = cc in let f : steps ≡ k = cc in p ∙ rw (e, f)), λ h. (let e : m ≡ n = cc in let f : steps ≡ k = cc in q ∙ rw (e, f)));
  }

module _ (c d : Call) (same : SameInputs c d) (r : Rule) (groups : ℕ) (a : Accepted row_length c r groups) (b : Accepted 0 d r groups) where
  one_answer : answer d.subject r d.budget ≡ answer c.subject r c.budget
  one_answer = rw (same.subject, same.budget)

  pub explanation-agreeing : ExplanationAgrees (match_call c) (explain_call d)
  explanation-agreeing = go z.outcome refl
    where
      z : Answer
      z = answer c.subject r c.budget

      too : (o : Outcome) → z.outcome ≡ o → (answer d.subject r d.budget).outcome ≡ o
      too o e = ap (λ (x : Answer). x.outcome) one_answer ∙ e

      steps : (answer d.subject r d.budget).steps ≡ z.steps
      steps = ap (λ (x : Answer). x.steps) one_answer

      go : (o : Outcome) → z.outcome ≡ o → ExplanationAgrees (match_call c) (explain_call d)
      go (matched n t) e = both-matched (match_call c) (explain_call d) z.steps (returns-matched c r groups a n t e).0 (rw steps at (returns-fits d r groups b n t (too (matched n t) e)).0)
      go not_matched e = neither-matched (match_call c) (explain_call d) z.steps _ _ (returns-not_matched c r groups a e).0 (rw steps at (returns-unfit d r groups b (too not_matched e)).0)
      go (exhausted n) e = both-exhausted (match_call c) (explain_call d) z.steps n (returns-exhausted c r groups a n e).0 (rw steps at (returns-exhausted_too d r groups b n (too (exhausted n) e)).0)
