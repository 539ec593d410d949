-- A match and a listing of the same inputs agree: so do the answer and the listing of the rule's tree, and the rows are written alike. So it is for
-- successive matches.
use Rattle.std.specs.Prelude.{◌≡◌, ℕ, zero, suc, ◌≤◌, ◌<◌}
use Rattle.std.proofs.Math.Path.{refl, sym}
use Rattle.std.proofs.Common.{ap, ◌∙◌, inl, inr, arith}
use mathlib.Core.List.{List, [], ◌∷◌}
use Rattle.std.proofs.Math.ListN.{length, take}
use Rattle.syntax.specs.declared.Reason.{Reason}
use Rattle.syntax.specs.Limits.{row_length}
use Rattle.syntax.specs.Tree.{Rule}
use Rattle.semantics.specs.States.{Row}
use Rattle.semantics.specs.Answers.{Answer, answer, Ending, complete, full, exhausted_at, Listing, listing}
use Rattle.semantics.specs.Scans.{scan}
use Rattle.semantics.specs.Calls.{Call, Return, leaving, MatchOutcome, match_matched, match_not_matched, match_call, ListOutcome, list_complete, list_full, list_exhausted, list_refused, list_outcome, list_returns, room, list_call, scan_call}
use Rattle.semantics.specs.Demands.{In, Agreement, Faultless, Accepted, SameInputs, rows_reported, CallsAgree}
use Rattle.semantics.specs.ScanDemands.{ScanAgrees}
use Rattle.semantics.proofs.Laws.Cases.{clash}
use Rattle.semantics.proofs.Laws.Agreements.{agreement, scan-agreement}
use Rattle.semantics.proofs.Laws.Refusals.{result_area-enough}
use Rattle.semantics.proofs.Laws.Areas.{room-for-one, first-of-joined}
use Rattle.semantics.proofs.Laws.MatchCalls.{match-row, returns-matched, returns-not_matched, returns-exhausted}
use Rattle.semantics.proofs.Laws.ListCalls.{list-is, list-rows}
use Rattle.semantics.proofs.Laws.ScanCalls.{scan-returns, scan-rows}

-- What an outcome tells -----------------------------------------------------------

pub reported : (e : Ending) (rows steps : ℕ) → rows_reported (list_outcome e rows steps) ≡ rows
unfolding list_outcome
reported complete rows steps = refl
reported full rows steps = refl
reported (exhausted_at n) rows steps = refl

is-complete : (e : Ending) (rows steps i j : ℕ) → list_outcome e rows steps ≡ list_complete i j → (e ≡ complete) × (rows ≡ i) × (steps ≡ j)
unfolding list_outcome
is-complete complete rows steps i j h = (refl, cc, cc)
is-complete full rows steps i j h = absurd (clash (cc))
is-complete (exhausted_at n) rows steps i j h = absurd (clash (cc))

is-full : (e : Ending) (rows steps i j : ℕ) → list_outcome e rows steps ≡ list_full i j → (e ≡ full) × (rows ≡ i)
unfolding list_outcome
is-full complete rows steps i j h = absurd (clash (cc))
is-full full rows steps i j h = (refl, cc)
is-full (exhausted_at n) rows steps i j h = absurd (clash (cc))

is-exhausted : (e : Ending) (rows steps n i j : ℕ) → list_outcome e rows steps ≡ list_exhausted n i j → (e ≡ exhausted_at n) × (rows ≡ i) × (steps ≡ j)
unfolding list_outcome
is-exhausted complete rows steps n i j h = absurd (clash (cc))
is-exhausted full rows steps n i j h = absurd (clash (cc))
is-exhausted (exhausted_at m) rows steps n i j h = (ap exhausted_at (cc), cc, cc)

no_rows : (rows : List Row) → length rows ≡ 0 → rows ≡ []
no_rows [] e = refl
no_rows (x ∷ rows) e = absurd (omega arith)

-- the same inputs have one tree, whatever the calls need
pub accepted-same : {need : ℕ} (other : ℕ) (c d : Call) → SameInputs c d → (r : Rule) (groups : ℕ) → Accepted need c r groups → Faultless other d → Accepted other d r groups
accepted-same other c d same r groups a f = record { faultless = f; stop = a.stop; reads = rw (← same.rule, ← same.flags) a.reads }

-- Two calls --------------------------------------------------------------------------

-- a match, and a call that gives the rows of a listing which agrees with its answer
module _ (c d : Call) (r : Rule) (groups : ℕ) (a : Accepted row_length c r groups) (l : Listing) (sizes : (x : Row) → In x l.rows → length x ≡ row_length) (agree : Agreement (answer c.subject r c.budget) l) where
  abbrev told : Answer
  told = answer c.subject r c.budget

  abbrev back : Return ListOutcome
  back = list_returns d l

  outcome_is : back.outcome ≡ list_outcome l.ending (length l.rows) l.steps
  unfolding leaving
  outcome_is = refl

  first_rows : (rows : List Row) → l.rows ≡ rows → 0 < length rows → (steps : ℕ) × ((match_call c).outcome ≡ match_matched steps) × (take row_length (match_call c).result_area ≡ take row_length back.result_area)
  unfolding leaving
  first_rows [] e k = absurd (omega arith)
  first_rows (x ∷ more) e k =
      let z = agree.first_row x more e in
      let w = returns-matched c r groups a z.0 z.1 z.2 in
      let facts = match-row c r groups a z.0 z.1 z.2 in
      let size : length x ≡ row_length = sizes x (rw e (inl refl)) in
      let left : take row_length (match_call c).result_area ≡ x = rw (← facts.size) (w.1.first ∙ z.3) in
      let right : take row_length back.result_area ≡ x = rw e (first-of-joined x more d.result_area size) in
      (told.steps, w.0, left ∙ sym right)

  rows_agree : CallsAgree (match_call c) back
  rows_agree = record {
    first_row = λ k. first_rows l.rows refl (rw (outcome_is, reported l.ending (length l.rows) l.steps) at k);
    not_matched_too = λ steps e. (
        let z = is-complete l.ending (length l.rows) l.steps 0 steps (sym outcome_is ∙ e) in
        let y = agree.no_row (no_rows l.rows z.1) in
        elim y.0 [
          | inl x ↦ (returns-not_matched c r groups a x.1).0 ∙ ap match_not_matched (y.1 ∙ z.2)
          | inr x ↦ absurd (clash (cc (z.0, x.1)))
        ]);
    exhausted_too = λ n steps e. (
        let z = is-exhausted l.ending (length l.rows) l.steps n 0 steps (sym outcome_is ∙ e) in
        let y = agree.no_row (no_rows l.rows z.1) in
        elim y.0 [
          | inl x ↦ absurd (clash (cc (z.0, x.0)))
          | inr x ↦ (let q : x.0 ≡ n = cc (z.0, x.1) in (returns-exhausted c r groups a x.0 x.2).0 ∙ rw (q, y.1 ∙ z.2))
        ]);
    never_full = λ steps e. (
        let z = is-full l.ending (length l.rows) l.steps 0 steps (sym outcome_is ∙ e) in
        let y = agree.no_row (no_rows l.rows z.1) in
        elim y.0 [ inl x ↦ clash (cc (z.0, x.0)) | inr x ↦ clash (cc (z.0, x.1)) ]);
  }

module _ (c d : Call) (same : SameInputs c d) (r : Rule) (groups : ℕ) (a : Accepted row_length c r groups) (b : Accepted row_length d r groups) where
  some-room : 1 ≤ room d.result_area
  some-room = room-for-one d.result_area (result_area-enough row_length d b.faultless)

  pub agreeing : CallsAgree (match_call c) (list_call d)
  agreeing = rw (list-is d r groups b) (rows_agree c d r groups a (listing d.subject r d.budget (room d.result_area)) (λ x i. (list-rows d r groups b x i).size) (rw (same.subject, same.budget) (agreement d.subject r d.budget (room d.result_area) some-room)))

  pub scan-agreeing : CallsAgree (match_call c) (scan_call d)
  scan-agreeing = rw (scan-returns d r groups b) (rows_agree c d r groups a (scan d.subject r d.budget (room d.result_area)) (λ x i. (scan-rows d r groups b x i).size) (rw (same.subject, same.budget) (scan-agreement d.subject r d.budget (room d.result_area) some-room)))

-- In both directions: what is told of rows leaves one case for each answer ------------

module _ (x : Return MatchOutcome) (y : Return ListOutcome) (g : CallsAgree x y) where
  with_rows : 0 < rows_reported y.outcome → ((n steps : ℕ) → ¬ (y.outcome ≡ list_exhausted n 0 steps)) → ((steps : ℕ) → ¬ (y.outcome ≡ list_complete 0 steps)) → ScanAgrees x y
  with_rows k u v =
      let z = g.first_row k in
      record {
        matched_exactly = (λ h. k, λ h. (z.0, z.1));
        first_row = λ h. z.2;
        not_matched_exactly = λ steps. (λ e. absurd (clash (cc (e, z.1))), λ e. absurd (v steps e));
        exhausted_exactly = λ n steps. (λ e. absurd (clash (cc (e, z.1))), λ e. absurd (u n steps e));
      }

  pub agrees-exactly : ((place : ℕ) (why : Reason) → ¬ (y.outcome ≡ list_refused place why)) → ScanAgrees x y
  agrees-exactly f = go y.outcome refl
    where
      none : (o : ListOutcome) → rows_reported o ≡ 0 → y.outcome ≡ o → ¬ (0 < rows_reported y.outcome)
      none o h e l = let k : 0 < rows_reported o = rw e at l in omega arith

      go : (o : ListOutcome) → y.outcome ≡ o → ScanAgrees x y
      go (list_complete zero steps) e =
          let z = g.not_matched_too steps e in
          record {
            matched_exactly = (λ h. absurd (clash (cc (z, h.1))), λ h. absurd (none (list_complete 0 steps) refl e h));
            first_row = λ h. absurd (none (list_complete 0 steps) refl e h);
            not_matched_exactly = λ k. (λ h. e ∙ ap (list_complete 0) (cc (z, h)), λ h. z ∙ ap match_not_matched (cc (e, h)));
            exhausted_exactly = λ n k. (λ h. absurd (clash (cc (z, h))), λ h. absurd (clash (cc (e, h))));
          }
      go (list_complete (suc rows) steps) e = with_rows (rw e (omega arith)) (λ n k h. clash (cc (e, h))) (λ k h. (let q : suc rows ≡ 0 = cc (e, h) in omega arith))
      go (list_full zero steps) e = absurd (g.never_full steps e)
      go (list_full (suc rows) steps) e = with_rows (rw e (omega arith)) (λ n k h. clash (cc (e, h))) (λ k h. clash (cc (e, h)))
      go (list_exhausted m zero steps) e =
          let z = g.exhausted_too m steps e in
          record {
            matched_exactly = (λ h. absurd (clash (cc (z, h.1))), λ h. absurd (none (list_exhausted m 0 steps) refl e h));
            first_row = λ h. absurd (none (list_exhausted m 0 steps) refl e h);
            not_matched_exactly = λ k. (λ h. absurd (clash (cc (z, h))), λ h. absurd (clash (cc (e, h))));
            exhausted_exactly = λ n k. (λ h. (let p : m ≡ n = cc (z, h) in let q : steps ≡ k = cc (z, h) in e ∙ rw (p, q)), λ h. (let p : m ≡ n = cc (e, h) in let q : steps ≡ k = cc (e, h) in z ∙ rw (p, q)));
          }
      go (list_exhausted m (suc rows) steps) e = with_rows (rw e (omega arith)) (λ n k h. (let q : suc rows ≡ 0 = cc (e, h) in omega arith)) (λ k h. clash (cc (e, h)))
      go (list_refused place why) e = absurd (f place why e)
