-- The line that the gateway says for what a match tells: one stands for each outcome, of the rule that is held.
use Rattle.std.specs.Prelude.{◌≡◌, ℕ, ◌≤◌, ◌<◌, length, take, drop}
use Rattle.std.proofs.Math.Path.{sym}
use Rattle.std.proofs.Common.{ap, ◌∙◌, arith, lt-ltb, le-ltb, take_at}
use mathlib.Core.List.{List}
use Rattle.syntax.specs.Limits.{subject_limit, budget_limit, row_length}
use Rattle.syntax.specs.Tree.{Rule}
use Rattle.semantics.specs.States.{row}
use Rattle.semantics.specs.Answers.{Outcome, matched, not_matched, exhausted, Answer, answer}
use Rattle.semantics.specs.Calls.{over}
use Rattle.frame.specs.Inputs.{Held}
use Rattle.finding.specs.declared.Outcome.{Outcome as Told}
use Rattle.finding.specs.declared.Outcome.TheVariants.{Matched as Found, NotMatched as Missed, Exhausted as Spent, Refused as Denied}
use Rattle.finding.specs.Outcomes.{outcome_of, Reports}
use Rattle.gateway_text.specs.Lines.{matched_line, too_long_line, outcome_line}
use Rattle.gateway_answers.specs.Limits.{line_limit, gateway_budget}
use Rattle.gateway_answers.specs.Answers.{answer_line}
use Rattle.gateway_answers.specs.Promises.{Lent, told_line, rowed, results_left}

-- a line that is too long, and one that is not
module _ (r : Rule × ℕ) (s : List ℕ) where
  pub long_answer : line_limit < length s → answer_line r s ≡ too_long_line
  unfolding answer_line
  long_answer h = rw (lt-ltb line_limit (length s) h)

  pub short_answer : length s ≤ line_limit → answer_line r s ≡ outcome_line r.1 (answer s r.0 gateway_budget).outcome
  unfolding answer_line
  short_answer h = rw (le-ltb line_limit (length s) h)

-- areas of the same lengths serve as well
pub lent_still : {code work_area results work_area' results' : List ℕ} {entry groups : ℕ} → Lent code entry groups work_area results → length work_area' ≡ length work_area → length results' ≡ length results → Lent code entry groups work_area' results'
lent_still l f g = record { tree = l.tree; stands = l.stands; few = l.few; code_size = l.code_size; work_area_fits = rw f l.work_area_fits; results_fit = rw g l.results_fit }

budget-low : gateway_budget ≤ budget_limit
unfolding gateway_budget budget_limit
budget-low = omega arith

-- a match has for its rule and its line what it asks for
pub lent_held : {code work_area results : List ℕ} {entry groups : ℕ} → Lent code entry groups work_area results → (line : List ℕ) → length line ≤ line_limit → Held code line work_area entry gateway_budget
unfolding line_limit subject_limit
lent_held l line short = record { tree = l.tree; stands = l.stands; code_size = l.code_size; subject_fits = omega arith; work_fits = l.work_area_fits; budget_fits = budget-low }

-- what is left of the result area
module _ (tree : Rule) (line results : List ℕ) where
  pub left_long : line_limit < length line → results ≡ results_left tree line results
  unfolding results_left
  left_long h = rw (lt-ltb line_limit (length line) h)

  pub left_short : length line ≤ line_limit → rowed (answer line tree gateway_budget).outcome results ≡ results_left tree line results
  unfolding results_left
  left_short h = rw (le-ltb line_limit (length line) h)

module _ (tree : Rule) (groups : ℕ) (line : List ℕ) (short : length line ≤ line_limit) where
  abbrev told : Answer
  told = answer line tree gateway_budget

  -- the line for the outcome, once that is known
  says : (o : Outcome) → told.outcome ≡ o → answer_line (tree, groups) line ≡ outcome_line groups o
  says o e = short_answer (tree, groups) line short ∙ ap (λ (x : Outcome). outcome_line groups x) e

  -- what the match tells is said as the answer
  pub told_says : (o : Told) (old new : List ℕ) → Reports old new o told → told_line groups (outcome_of o) (take row_length new) ≡ answer_line (tree, groups) line
  unfolding told_line outcome_line outcome_of over
  told_says (Found steps) old new r =
      let x = row r.0 r.1 in
      rw r.3 (ap (λ (y : List ℕ). matched_line groups y) (take_at x (drop (length x) old) row_length r.4) ∙ sym (says (matched r.0 r.1) (ap (λ (a : Answer). a.outcome) r.2)))
  told_says (Missed steps) old new r = sym (says not_matched (ap (λ (a : Answer). a.outcome) r.0))
  told_says (Spent start steps) old new r = sym (says (exhausted start) (ap (λ (a : Answer). a.outcome) r.0))
  told_says (Denied why) old new r = absurd r

  -- and its row is left
  reported : (o : Told) (old new : List ℕ) → Reports old new o told → new ≡ rowed told.outcome old
  unfolding rowed
  reported (Found steps) old new r = rw r.2 r.3
  reported (Missed steps) old new r = rw r.0 r.1
  reported (Spent start steps) old new r = rw r.0 r.1
  reported (Denied why) old new r = absurd r

  pub left_reported : (o : Told) (old new : List ℕ) → Reports old new o told → new ≡ results_left tree line old
  left_reported o old new r = reported o old new r ∙ left_short tree line old short
