-- What a depot gains by its profile (02, request k): every round of a repeat without upper bound takes bytes, so that it makes no more rounds than bytes
-- are left; and what it does not lose: an accepted rule answers every call as it does in the full syntax. Laws/Profiles proves both.
-- docs/REFERENCE.md, 11.3
use Rattle.std.specs.Prelude.{◌≡◌, List, Bool, true, false, ℕ, suc, ◌-◌, ◌≤◌, ◌<◌, length}
use Rattle.syntax.specs.declared.Greed.{Greed}
use Rattle.syntax.specs.declared.Most.{Most}
use Rattle.syntax.specs.Tree.{Rule, empty, item, seq, alt, group, repeat, held, look, Branches, one, also}
use Rattle.syntax.specs.Lengths.{unbounded}
use Rattle.syntax.specs.Laws.Profile.{unprofiled}
use Rattle.semantics.specs.States.{State}
use Rattle.semantics.specs.Derivations.{Rounds, stop, turn, Derives}
use Rattle.semantics.specs.Calls.{Call, match_call, list_call, scan_call, explain_call}
use Rattle.semantics.specs.Checks.{check_call}
use Rattle.semantics.specs.Batches.{batch_call}

-- Rounds ------------------------------------------------------------------------

-- how many rounds a derivation makes of a repeat
unfoldable pub rounds_of : {Body : State → State → Type 0} {least : ℕ} {most : Most} {g : Greed} {n : ℕ} {idle : Bool} {s t : State} → Rounds Body least most g n idle s t → ℕ
rounds_of (stop o) = 0
rounds_of (turn a b r) = suc (rounds_of r)

-- a repeat of the body a
pub record Advances (sub : List ℕ) (least : ℕ) (most : Most) (g : Greed) (a : Rule) : Type 0 where
  pub no_empty_round : (s t : State) → Derives sub a s t → s.at < t.at
  pub few_rounds : (s t : State) → s.at ≤ length sub → (d : Rounds (Derives sub a) least most g 0 false s t) → rounds_of d ≤ length sub - s.at

-- each repeat without upper bound in a rule
abbrev mutual
  pub AllAdvance : List ℕ → Rule → Type 0
  AllAdvance sub empty = Unit
  AllAdvance sub (item place i) = Unit
  AllAdvance sub (seq a b) = AllAdvance sub a × AllAdvance sub b
  AllAdvance sub (alt bs bar b) = EachAdvances sub bs × AllAdvance sub b
  AllAdvance sub (group n a) = AllAdvance sub a
  AllAdvance sub (repeat place least most g a) = (unbounded most ≡ true → Advances sub least most g a) × AllAdvance sub a
  AllAdvance sub (held place a) = AllAdvance sub a
  AllAdvance sub (look place negative a) = AllAdvance sub a

  pub EachAdvances : List ℕ → Branches → Type 0
  EachAdvances sub (one a) = AllAdvance sub a
  EachAdvances sub (also bs bar b) = EachAdvances sub bs × AllAdvance sub b

-- Calls -------------------------------------------------------------------------

-- the same call without the profile
abbrev pub in_full : Call → Call
in_full c = record {
  rule = c.rule;
  flags = unprofiled c.flags;
  subject = c.subject;
  budget = c.budget;
  rule_area = c.rule_area;
  work_area = c.work_area;
  result_area = c.result_area;
  names = c.names;
}

-- "Answers for accepted rules are those of the full syntax": all that is returned and left
pub record AnswersInFull (c : Call) : Type 0 where
  pub a_match : match_call c ≡ match_call (in_full c)
  pub a_listing : list_call c ≡ list_call (in_full c)
  pub successive_matches : scan_call c ≡ scan_call (in_full c)
  pub an_explanation : explain_call c ≡ explain_call (in_full c)
  pub a_check : (proposal : List ℕ) → check_call proposal c ≡ check_call proposal (in_full c)
  pub a_days_lines : batch_call c ≡ batch_call (in_full c)
