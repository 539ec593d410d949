-- The demands hold for all inputs, and the calls are the only ones that meet them. Each is the last of a chain in Laws: Runs and Newness,
-- then Matches (demand 2), Readings and Listings (demand 3), Refusals and Calls (demand 1), Failures, Misses and Explanations (02, request f),
-- Searches and Scans (02, request g).
-- docs/REFERENCE.md, 16
use Rattle.std.specs.Prelude.{◌≡◌, List, ℕ, ◌≤◌, length}
use Rattle.std.proofs.Common.{inl, inr}
use Rattle.syntax.specs.declared.Reason.{Reason}
use Rattle.syntax.specs.Limits.{row_length}
use Rattle.syntax.specs.Tree.{Rule}
use Rattle.semantics.specs.Answers.{answer, listing}
use Rattle.semantics.specs.Explanations.{Failure}
use Rattle.semantics.specs.Scans.{scan}
use Rattle.semantics.specs.Calls.{Call, Return, MatchOutcome, match_refused, match_call, ListOutcome, list_refused, list_call, scan_call, ExplainOutcome, explain_unfit, explain_refused, explain_call}
use Rattle.semantics.specs.Demands.{Demand2, Demand3, Agreement, MatchDemands, ListDemands, ExplainDemands, SameInputs, CallsAgree, ExplanationAgrees}
use Rattle.semantics.specs.ScanDemands.{ScanDemand, ScanDemands, ScanAgrees}
use Rattle.semantics.proofs.Laws.Cases.{clash}
use Rattle.semantics.proofs.Laws.Matches.{demand_2}
use Rattle.semantics.proofs.Laws.Listings.{demand_3}
use Rattle.semantics.proofs.Laws.Agreements.{agreement, scan-agreement}
use Rattle.semantics.proofs.Laws.Scans.{scan-demand}
use Rattle.semantics.proofs.Laws.Calls.{verdict}
use Rattle.semantics.proofs.Laws.MatchCalls.{match-demand_1, match-answers}
use Rattle.semantics.proofs.Laws.ListCalls.{list-demand_1, list-answers}
use Rattle.semantics.proofs.Laws.ScanCalls.{scan-demand_1, scan-answers}
use Rattle.semantics.proofs.Laws.AgreeingCalls.{accepted-same, agreeing, scan-agreeing, agrees-exactly}
use Rattle.semantics.proofs.Laws.ExplainCalls.{explain-demand_1, explain-answers, explanation-agreeing, far-at-end}
use Rattle.semantics.proofs.Laws.SettledCalls.{match-settles, list-settles, scan-settles, explain-settles}

-- Of any tree ------------------------------------------------------------------------

pub demand_2-holds : (sub : List ℕ) (r : Rule) (budget : ℕ) → Demand2 sub r budget (answer sub r budget)
demand_2-holds = demand_2

pub demand_3-holds : (sub : List ℕ) (r : Rule) (budget limit : ℕ) → Demand3 sub r budget limit (listing sub r budget limit)
demand_3-holds = demand_3

pub agreement-holds : (sub : List ℕ) (r : Rule) (budget limit : ℕ) → 1 ≤ limit → Agreement (answer sub r budget) (listing sub r budget limit)
agreement-holds = agreement

-- request g)
pub scan-demand-holds : (sub : List ℕ) (r : Rule) (budget limit : ℕ) → ScanDemand sub r budget limit (scan sub r budget limit)
scan-demand-holds = scan-demand

pub scan-agreement-holds : (sub : List ℕ) (r : Rule) (budget limit : ℕ) → 1 ≤ limit → Agreement (answer sub r budget) (scan sub r budget limit)
scan-agreement-holds = scan-agreement

-- Of any call ------------------------------------------------------------------------

-- demands 1 and 2
pub match-meets-demands : (c : Call) → MatchDemands c (match_call c)
match-meets-demands c = record { demand_1 = match-demand_1 c; answers = match-answers c }

-- demands 1 and 3
pub list-meets-demands : (c : Call) → ListDemands c (list_call c)
list-meets-demands c = record { demand_1 = list-demand_1 c; answers = list-answers c }

-- "A match on the same inputs, not refused either"
pub calls-agree : (c d : Call) → SameInputs c d → ((place : ℕ) (why : Reason) → ¬ ((match_call c).outcome ≡ match_refused place why)) → ((place : ℕ) (why : Reason) → ¬ ((list_call d).outcome ≡ list_refused place why))
    → CallsAgree (match_call c) (list_call d)
calls-agree c d same f g = elim (verdict row_length c) [
  | inl a ↦ elim (verdict row_length d) [
    | inl b ↦ agreeing c d same a.0 a.1 a.2 (accepted-same row_length c d same a.0 a.1 a.2 b.2.faultless)
    | inr b ↦ absurd (g b.0 b.1 (((list-demand_1 d).refused_exactly b.0 b.1).1 b.2))
  ]
  | inr a ↦ absurd (f a.0 a.1 (((match-demand_1 c).refused_exactly a.0 a.1).1 a.2))
]

-- demand 1, and request g)
pub scan-meets-demands : (c : Call) → ScanDemands c (scan_call c)
scan-meets-demands c = record { demand_1 = scan-demand_1 c; answers = scan-answers c }

-- the first of successive matches is the match
pub scan-agrees : (c d : Call) → SameInputs c d → ((place : ℕ) (why : Reason) → ¬ ((match_call c).outcome ≡ match_refused place why)) → ((place : ℕ) (why : Reason) → ¬ ((scan_call d).outcome ≡ list_refused place why))
    → ScanAgrees (match_call c) (scan_call d)
scan-agrees c d same f g = elim (verdict row_length c) [
  | inl a ↦ elim (verdict row_length d) [
    | inl b ↦ agrees-exactly (match_call c) (scan_call d) (scan-agreeing c d same a.0 a.1 a.2 (accepted-same row_length c d same a.0 a.1 a.2 b.2.faultless)) g
    | inr b ↦ absurd (g b.0 b.1 (((scan-demand_1 d).refused_exactly b.0 b.1).1 b.2))
  ]
  | inr a ↦ absurd (f a.0 a.1 (((match-demand_1 c).refused_exactly a.0 a.1).1 a.2))
]

-- demand 1, and request f)
pub explain-meets-demands : (c : Call) → ExplainDemands c (explain_call c)
explain-meets-demands c = record { demand_1 = explain-demand_1 c; answers = explain-answers c }

pub explanation-agrees : (c d : Call) → SameInputs c d → ((place : ℕ) (why : Reason) → ¬ ((match_call c).outcome ≡ match_refused place why)) → ((place : ℕ) (why : Reason) → ¬ ((explain_call d).outcome ≡ explain_refused place why))
    → ExplanationAgrees (match_call c) (explain_call d)
explanation-agrees c d same f g = elim (verdict row_length c) [
  | inl a ↦ elim (verdict 0 d) [
    | inl b ↦ explanation-agreeing c d same a.0 a.1 a.2 (accepted-same 0 c d same a.0 a.1 a.2 b.2.faultless)
    | inr b ↦ absurd (g b.0 b.1 (((explain-demand_1 d).refused_exactly b.0 b.1).1 b.2))
  ]
  | inr a ↦ absurd (f a.0 a.1 (((match-demand_1 c).refused_exactly a.0 a.1).1 a.2))
]

-- the greatest place that is told is always the line's length: by 02's letter the starts go up to it
pub furthest-at-line-end : (c : Call) (steps : ℕ) (far near : Failure) → (explain_call c).outcome ≡ explain_unfit steps far near → far.at ≡ length c.subject
furthest-at-line-end c steps far near e = elim (verdict 0 c) [
  | inl a ↦ far-at-end c a.0 a.1 a.2 steps far near e
  | inr a ↦ absurd (clash (cc (e, ((explain-demand_1 c).refused_exactly a.0 a.1).1 a.2)))
]

-- Nothing else meets them -------------------------------------------------------------

pub match-settled : (c : Call) (x : Return MatchOutcome) → MatchDemands c x → x ≡ match_call c
match-settled c x h = match-settles c x (match_call c) h (match-meets-demands c)

pub list-settled : (c : Call) (x : Return ListOutcome) → ListDemands c x → x ≡ list_call c
list-settled c x h = list-settles c x (list_call c) h (list-meets-demands c)

pub scan-settled : (c : Call) (x : Return ListOutcome) → ScanDemands c x → x ≡ scan_call c
scan-settled c x h = scan-settles c x (scan_call c) h (scan-meets-demands c)

pub explain-settled : (c : Call) (x : Return ExplainOutcome) → ExplainDemands c x → x ≡ explain_call c
explain-settled c x h = explain-settles c x (explain_call c) h (explain-meets-demands c)
