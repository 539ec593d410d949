-- What the numbers of an outcome are, by the code's own cases, and where a refusal's place fits into 32 bits.
use Rattle.std.specs.Prelude.{◌≡◌, refl, ◌++◌, ℕ, ◌≤◌, Result, Ok, Err}
use Rattle.syntax.specs.declared.Refusal.{Refusal}
use Rattle.syntax.specs.Limits.{rule_limit}
use Rattle.syntax.specs.Refusals.{number_of}
use Rattle.semantics.specs.Explanations.{nowhere}
use Rattle.semantics.specs.Calls.{MatchOutcome, match_matched, match_not_matched, match_exhausted, match_refused, ListOutcome, list_complete, list_full, list_exhausted, list_refused, ExplainOutcome, explain_fits, explain_unfit, explain_exhausted, explain_refused}
use Rattle.semantics.specs.Batches.{BatchOutcome, batch_done, batch_refused}
use Rattle.semantics.specs.Checks.{CheckOutcome, check_reading, check_no_reading, check_exhausted, check_refused}
use Rattle.finding.specs.declared.Outcome.{Outcome}
use Rattle.finding.specs.declared.Outcome.TheVariants.{Matched, NotMatched, Exhausted, Refused}
use Rattle.gathering.specs.declared.Listing.{Listing}
use Rattle.gathering.specs.declared.Listing.TheVariants.{Complete, Full, Exhausted as Cut}
use Rattle.finding.specs.Outcomes.{outcome_of}
use Rattle.gathering.specs.Listing.{listing_of}
use Rattle.greatest.specs.declared.greatest.Failed.{Failed}
use Rattle.explaining.specs.declared.Explanation.{Explanation}
use Rattle.explaining.specs.declared.Explanation.TheVariants.{Matched as Fitting, NotMatched as Unfitting, Exhausted as Ended}
use Rattle.greatest.specs.Best.{failure_of}
use Rattle.explaining.specs.Explanations.{explanation_of}
use Rattle.batching.specs.Batches.{batch_of}
use Rattle.checking.specs.declared.Verdict.{Verdict}
use Rattle.checking.specs.declared.Verdict.TheVariants.{Reading, Nothing, Exhausted as Overdrawn}
use Rattle.checking.specs.Verdicts.{verdict_of}
use Rattle.answers.specs.Answers.{numbers, refusal_numbers, match_numbers, list_numbers, batch_numbers, check_numbers, failure_numbers, explain_numbers}

-- Places ------------------------------------------------------------------------

-- a refusal's place is no more than a rule's length, and so fits into 32 bits
abbrev pub MatchPlaced : MatchOutcome → Type 0
MatchPlaced (match_matched steps) = Unit
MatchPlaced (match_not_matched steps) = Unit
MatchPlaced (match_exhausted start steps) = Unit
MatchPlaced (match_refused place why) = place ≤ rule_limit

abbrev pub ListPlaced : ListOutcome → Type 0
ListPlaced (list_complete rows steps) = Unit
ListPlaced (list_full rows steps) = Unit
ListPlaced (list_exhausted start rows steps) = Unit
ListPlaced (list_refused place why) = place ≤ rule_limit

abbrev pub ExplainPlaced : ExplainOutcome → Type 0
ExplainPlaced (explain_fits steps) = Unit
ExplainPlaced (explain_unfit steps far near) = Unit
ExplainPlaced (explain_exhausted start steps) = Unit
ExplainPlaced (explain_refused place why) = place ≤ rule_limit

abbrev pub BatchPlaced : BatchOutcome → Type 0
BatchPlaced (batch_done lines) = Unit
BatchPlaced (batch_refused place why) = place ≤ rule_limit

abbrev pub CheckPlaced : CheckOutcome → Type 0
CheckPlaced (check_reading steps) = Unit
CheckPlaced (check_no_reading steps) = Unit
CheckPlaced (check_exhausted start steps) = Unit
CheckPlaced (check_refused place why) = place ≤ rule_limit

pub match-place : (o : Outcome) (f : Refusal) → o ≡ Refused f → MatchPlaced (outcome_of o) → f.place ≤ rule_limit
unfolding outcome_of
match-place o f e h = rw e at h

pub list-place : (o : Result Listing Refusal) (f : Refusal) → o ≡ Err f → ListPlaced (listing_of o) → f.place ≤ rule_limit
unfolding listing_of
list-place o f e h = rw e at h

pub explain-place : (o : Result Explanation Refusal) (f : Refusal) → o ≡ Err f → ExplainPlaced (explanation_of o) → f.place ≤ rule_limit
unfolding explanation_of
explain-place o f e h = rw e at h

pub batch-place : (o : Result ℕ Refusal) (f : Refusal) → o ≡ Err f → BatchPlaced (batch_of o) → f.place ≤ rule_limit
unfolding batch_of
batch-place o f e h = rw e at h

pub check-place : (o : Result Verdict Refusal) (f : Refusal) → o ≡ Err f → CheckPlaced (verdict_of o) → f.place ≤ rule_limit
unfolding verdict_of
check-place o f e h = rw e at h

-- A match -----------------------------------------------------------------------

pub of-matched : (o : Outcome) (steps : ℕ) → o ≡ Matched steps → numbers 0 0 0 steps 1 ≡ match_numbers (outcome_of o)
unfolding match_numbers outcome_of
of-matched o steps e = rw e refl

pub of-not-matched : (o : Outcome) (steps : ℕ) → o ≡ NotMatched steps → numbers 1 0 0 steps 0 ≡ match_numbers (outcome_of o)
unfolding match_numbers outcome_of
of-not-matched o steps e = rw e refl

pub of-spent : (o : Outcome) (start steps : ℕ) → o ≡ Exhausted start steps → numbers 2 start 0 steps 0 ≡ match_numbers (outcome_of o)
unfolding match_numbers outcome_of
of-spent o start steps e = rw e refl

pub of-refused : (o : Outcome) (f : Refusal) → o ≡ Refused f → refusal_numbers f.place f.reason ≡ match_numbers (outcome_of o)
unfolding match_numbers outcome_of
of-refused o f e = rw e refl

-- A listing ---------------------------------------------------------------------

pub of-whole : (o : Result Listing Refusal) (rows steps : ℕ) → o ≡ Ok (Complete rows steps) → numbers 0 0 0 steps rows ≡ list_numbers (listing_of o)
unfolding list_numbers listing_of
of-whole o rows steps e = rw e refl

pub of-full : (o : Result Listing Refusal) (rows steps : ℕ) → o ≡ Ok (Full rows steps) → numbers 1 0 0 steps rows ≡ list_numbers (listing_of o)
unfolding list_numbers listing_of
of-full o rows steps e = rw e refl

pub of_cut : (o : Result Listing Refusal) (start rows steps : ℕ) → o ≡ Ok (Cut start rows steps) → numbers 2 start 0 steps rows ≡ list_numbers (listing_of o)
unfolding list_numbers listing_of
of_cut o start rows steps e = rw e refl

pub of-denied : (o : Result Listing Refusal) (f : Refusal) → o ≡ Err f → refusal_numbers f.place f.reason ≡ list_numbers (listing_of o)
unfolding list_numbers listing_of
of-denied o f e = rw e refl

-- A day's lines -----------------------------------------------------------------

pub of-all : (o : Result ℕ Refusal) (lines : ℕ) → o ≡ Ok lines → numbers 0 0 0 0 lines ≡ batch_numbers (batch_of o)
unfolding batch_numbers batch_of
of-all o lines e = rw e refl

pub of-unmade : (o : Result ℕ Refusal) (f : Refusal) → o ≡ Err f → refusal_numbers f.place f.reason ≡ batch_numbers (batch_of o)
unfolding batch_numbers batch_of
of-unmade o f e = rw e refl

-- A check -----------------------------------------------------------------------

pub of-a-reading : (o : Result Verdict Refusal) (steps : ℕ) → o ≡ Ok (Reading steps) → numbers 0 0 0 steps 1 ≡ check_numbers (verdict_of o)
unfolding check_numbers verdict_of
of-a-reading o steps e = rw e refl

pub of-no-reading : (o : Result Verdict Refusal) (steps : ℕ) → o ≡ Ok (Nothing steps) → numbers 1 0 0 steps 0 ≡ check_numbers (verdict_of o)
unfolding check_numbers verdict_of
of-no-reading o steps e = rw e refl

pub of-overdrawn : (o : Result Verdict Refusal) (start steps : ℕ) → o ≡ Ok (Overdrawn start steps) → numbers 2 start 0 steps 0 ≡ check_numbers (verdict_of o)
unfolding check_numbers verdict_of
of-overdrawn o start steps e = rw e refl

pub of-unchecked : (o : Result Verdict Refusal) (f : Refusal) → o ≡ Err f → refusal_numbers f.place f.reason ≡ check_numbers (verdict_of o)
unfolding check_numbers verdict_of
of-unchecked o f e = rw e refl

-- An explanation ------------------------------------------------------------------

pub of-fitting : (o : Result Explanation Refusal) (steps : ℕ) → o ≡ Ok (Fitting steps) → numbers 0 0 0 steps 0 ++ failure_numbers nowhere nowhere ≡ explain_numbers (explanation_of o)
unfolding explain_numbers explanation_of
of-fitting o steps e = rw e refl

pub of-unfitting : (o : Result Explanation Refusal) (steps : ℕ) (far near : Failed) → o ≡ Ok (Unfitting steps far near) → numbers 1 0 0 steps 0 ++ failure_numbers (failure_of far) (failure_of near) ≡ explain_numbers (explanation_of o)
unfolding explain_numbers explanation_of
of-unfitting o steps far near e = rw e refl

pub of-ended : (o : Result Explanation Refusal) (start steps : ℕ) → o ≡ Ok (Ended start steps) → numbers 2 start 0 steps 0 ++ failure_numbers nowhere nowhere ≡ explain_numbers (explanation_of o)
unfolding explain_numbers explanation_of
of-ended o start steps e = rw e refl

pub of-declined : (o : Result Explanation Refusal) (f : Refusal) (number : ℕ) → o ≡ Err f → number ≡ number_of f.reason → numbers 3 number f.place 0 0 ++ failure_numbers nowhere nowhere ≡ explain_numbers (explanation_of o)
unfolding explain_numbers explanation_of refusal_numbers
of-declined o f number e h = rw (e, h) refl
