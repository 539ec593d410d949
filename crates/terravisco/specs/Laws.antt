-- The place of a refusal that a call gives fits into 32 bits, so that it can be told.
use Rattle.std.specs.Prelude.{◌≡◌, refl, List, ℕ, ◌≤◌, ◌<◌, Result, length}
use Rattle.std.proofs.Common.{arith}
use Rattle.std.proofs.Math.Decide.{dec_lt}
use Rattle.syntax.specs.declared.Reason.{Reason}
use Rattle.syntax.specs.declared.Refusal.{Refusal}
use Rattle.syntax.specs.declared.Reason.TheVariants.{RuleTooLong}
use Rattle.syntax.specs.Limits.{rule_limit, row_length}
use Rattle.syntax.specs.Read.{Read, refused}
use Rattle.syntax.specs.Reading.{reading}
use Rattle.syntax.proofs.Laws.Places.{Placed, reading-placed}
use Rattle.semantics.specs.Calls.{Call, match_call, list_call, scan_call, MatchOutcome, match_matched, match_not_matched, match_exhausted, match_refused, ListOutcome, list_complete, list_full, list_exhausted, list_refused, explain_call, ExplainOutcome, explain_fits, explain_unfit, explain_exhausted, explain_refused}
use Rattle.semantics.specs.Batches.{BatchOutcome, batch_done, batch_refused, lines_of, lineless, parts_need, batch_call}
use Rattle.semantics.specs.Checks.{CheckOutcome, check_reading, check_no_reading, check_exhausted, check_refused, check_call}
use Rattle.semantics.specs.CheckDemands.{CheckRefuses, like_match, held_or_look, too_many_branches}
use Rattle.semantics.proofs.CheckDemandsHold.{check-meets-demands, form-within, crowd-within}
use Rattle.semantics.specs.Demands.{Faultless, rule_too_long, Refuses, itself, its_rule}
use Rattle.semantics.proofs.DemandsHold.{match-meets-demands, list-meets-demands, scan-meets-demands, explain-meets-demands}
use Rattle.semantics.proofs.Laws.Batches.{batch-demand_1}
use Rattle.finding.specs.declared.Outcome.{Outcome}
use Rattle.gathering.specs.declared.Listing.{Listing}
use Rattle.finding.specs.Outcomes.{outcome_of}
use Rattle.gathering.specs.Listing.{listing_of}
use Rattle.explaining.specs.declared.Explanation.{Explanation}
use Rattle.explaining.specs.Explanations.{explanation_of}
use Rattle.batching.specs.Batches.{batch_of}
use Rattle.checking.specs.declared.Verdict.{Verdict}
use Rattle.checking.specs.Verdicts.{verdict_of}
use Rattle.answers.specs.Laws.{MatchPlaced, ListPlaced, BatchPlaced, CheckPlaced, ExplainPlaced}

of-reading : {A : Type 0} (n : ℕ) (x : Read A) (place : ℕ) (why : Reason) → x ≡ refused place why → Placed n x → place ≤ n
of-reading n x place why e h = rw e at h

short : (need : ℕ) (c : Call) → Faultless need c → Dec (rule_limit < length c.rule) → length c.rule ≤ rule_limit
short need c f (yes h) = absurd (f RuleTooLong (rule_too_long h))
short need c f (no h) = omega arith

refuses-placed : (need : ℕ) (c : Call) (place : ℕ) (why : Reason) → Refuses need c place why → place ≤ rule_limit
refuses-placed need c place why (itself f) = omega arith
refuses-placed need c place why (its_rule f e) =
    let h = of-reading (length c.rule) (reading c.rule c.flags) place why e (reading-placed c.rule c.flags) in
    omega (arith, h, short need c f (dec_lt rule_limit (length c.rule)))

match-placed : (c : Call) → MatchPlaced (match_call c).outcome
match-placed c = of (match_call c).outcome refl
  where
    of : (o : MatchOutcome) → (match_call c).outcome ≡ o → MatchPlaced o
    of (match_matched steps) e = tt
    of (match_not_matched steps) e = tt
    of (match_exhausted start steps) e = tt
    of (match_refused place why) e = refuses-placed row_length c place why (((match-meets-demands c).demand_1.refused_exactly place why).0 e)

-- of a listing, and of successive matches
rows-placed : (c : Call) (o : ListOutcome) → ((place : ℕ) (why : Reason) → o ≡ list_refused place why → Refuses row_length c place why) → ListPlaced o
rows-placed c (list_complete rows steps) f = tt
rows-placed c (list_full rows steps) f = tt
rows-placed c (list_exhausted start rows steps) f = tt
rows-placed c (list_refused place why) f = refuses-placed row_length c place why (f place why refl)

explain-placed : (c : Call) → ExplainPlaced (explain_call c).outcome
explain-placed c = of (explain_call c).outcome refl
  where
    of : (o : ExplainOutcome) → (explain_call c).outcome ≡ o → ExplainPlaced o
    of (explain_fits steps) e = tt
    of (explain_unfit steps far near) e = tt
    of (explain_exhausted start steps) e = tt
    of (explain_refused place why) e = refuses-placed 0 c place why (((explain-meets-demands c).demand_1.refused_exactly place why).0 e)

batch-placed : (c : Call) → BatchPlaced (batch_call c).outcome
batch-placed c = of (batch_call c).outcome refl
  where
    of : (o : BatchOutcome) → (batch_call c).outcome ≡ o → BatchPlaced o
    of (batch_done lines) e = tt
    of (batch_refused place why) e = refuses-placed (parts_need (lines_of c.subject)) (lineless c) place why (((batch-demand_1 c).refused_exactly place why).0 e)

check-refuses-placed : (c : Call) (place : ℕ) (why : Reason) → CheckRefuses c place why → place ≤ rule_limit
check-refuses-placed c place why (like_match h) = refuses-placed row_length c place why h
check-refuses-placed c place why (held_or_look {r = r} {groups = groups} a e) = omega (arith, form-within c r groups place a e, short row_length c a.faultless (dec_lt rule_limit (length c.rule)))
check-refuses-placed c place why (too_many_branches {r = r} {groups = groups} a f e) = omega (arith, crowd-within c r groups place a e, short row_length c a.faultless (dec_lt rule_limit (length c.rule)))

check-placed : (proposal : List ℕ) (c : Call) → CheckPlaced (check_call proposal c).outcome
check-placed proposal c = of (check_call proposal c).outcome refl
  where
    of : (o : CheckOutcome) → (check_call proposal c).outcome ≡ o → CheckPlaced o
    of (check_reading steps) e = tt
    of (check_no_reading steps) e = tt
    of (check_exhausted start steps) e = tt
    of (check_refused place why) e = check-refuses-placed c place why (((check-meets-demands proposal c).demand_1.refused_exactly place why).0 e)

-- what the code's outcome is, a place in it fits
pub match-told : (o : Outcome) (c : Call) → outcome_of o ≡ (match_call c).outcome → MatchPlaced (outcome_of o)
match-told o c e = rw e (match-placed c)

pub list-told : (o : Result Listing Refusal) (c : Call) → listing_of o ≡ (list_call c).outcome → ListPlaced (listing_of o)
list-told o c e = rw e (rows-placed c (list_call c).outcome (λ place why. ((list-meets-demands c).demand_1.refused_exactly place why).0))

pub scan-told : (o : Result Listing Refusal) (c : Call) → listing_of o ≡ (scan_call c).outcome → ListPlaced (listing_of o)
scan-told o c e = rw e (rows-placed c (scan_call c).outcome (λ place why. ((scan-meets-demands c).demand_1.refused_exactly place why).0))

pub explain-told : (o : Result Explanation Refusal) (c : Call) → explanation_of o ≡ (explain_call c).outcome → ExplainPlaced (explanation_of o)
explain-told o c e = rw e (explain-placed c)

pub batch-told : (o : Result ℕ Refusal) (c : Call) → batch_of o ≡ (batch_call c).outcome → BatchPlaced (batch_of o)
batch-told o c e = rw e (batch-placed c)

pub check-told : (o : Result Verdict Refusal) (proposal : List ℕ) (c : Call) → verdict_of o ≡ (check_call proposal c).outcome → CheckPlaced (verdict_of o)
check-told o proposal c e = rw e (check-placed proposal c)
