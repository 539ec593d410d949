-- A match's answer is what its call returns.
use Rattle.std.specs.Prelude.{◌≡◌, refl, List, ◌++◌, ℕ, ◌+◌, ◌≤◌, length, take, drop}
use Rattle.std.proofs.Common.{sym, ◌∙◌}
use Rattle.syntax.specs.Limits.{rule_area_need, spans_length, row_length}
use Rattle.syntax.specs.Tree.{Rule}
use Rattle.syntax.specs.Reading.{names_of}
use Rattle.semantics.specs.NameIndex.{name_index}
use Rattle.semantics.specs.Answers.{Outcome, matched, not_matched, exhausted, Answer, answer}
use Rattle.semantics.specs.Calls.{Call, work_area_need, over, cleared, leaving, match_returns, match_rule}
use Rattle.finding.specs.declared.Outcome.{Outcome as Answered}
use Rattle.finding.specs.declared.Outcome.TheVariants.{Matched, NotMatched, Exhausted, Refused}
use Rattle.frame.specs.Inputs.{Told}
use Rattle.finding.specs.Outcomes.{outcome_of, Reports}
use Rattle.frame.specs.Laws.Areas.{over_none, over_first}
use Rattle.index.specs.Rows.{row_of}
use Rattle.index.specs.Laws.Rows.{row_of-length}
use Rattle.seeking.specs.Starts.{Match}
use Rattle.seeking.specs.Laws.Starts.{match-row}

-- What a call returns -------------------------------------------------------------

returns-clear : (c : Call) (o : Outcome) (steps : ℕ) → ((match_returns c o steps).rule_area ≡ cleared rule_area_need c.rule_area) × ((match_returns c o steps).work_area ≡ cleared (work_area_need c.budget) c.work_area) × ((match_returns c o steps).names ≡ over (name_index (names_of c.rule c.flags)) c.names)
unfolding match_returns leaving
returns-clear c (matched start t) steps = (refl, refl, refl)
returns-clear c not_matched steps = (refl, refl, refl)
returns-clear c (exhausted start) steps = (refl, refl, refl)

-- after every answer the areas are clear, and the index is filled
pub match-clears : (c : Call) (x : Rule) → ((match_rule c x).rule_area ≡ cleared rule_area_need c.rule_area) × ((match_rule c x).work_area ≡ cleared (work_area_need c.budget) c.work_area) × ((match_rule c x).names ≡ over (name_index (names_of c.rule c.flags)) c.names)
unfolding match_rule
match-clears c x = let a = answer c.subject x c.budget in returns-clear c a.outcome a.steps

told : (c : Call) (o : Answered) (new : List ℕ) (a : Answer) → Reports c.result_area new o a → Told (match_returns c a.outcome a.steps) (outcome_of o) new
unfolding match_returns leaving outcome_of
told c (Matched steps) new a r = rw r.2 (record { outcome_is = refl; result_area_is = r.3 })
told c (NotMatched steps) new a r = rw r.0 (record { outcome_is = refl; result_area_is = r.1 ∙ sym (over_none c.result_area) })
told c (Exhausted start steps) new a r = rw r.0 (record { outcome_is = refl; result_area_is = r.1 ∙ sym (over_none c.result_area) })
told c (Refused why) new a r = absurd r

-- what is told of a rule's answer is what its call returns
pub reports-told : (c : Call) (x : Rule) (o : Answered) (new : List ℕ) → Reports c.result_area new o (answer c.subject x c.budget) → Told (match_rule c x) (outcome_of o) new
unfolding match_rule
reports-told c x o new r = told c o new (answer c.subject x c.budget) r

-- what is told of the starts is the answer, where a match's row is written into the area
pub found-reports : {regs : List ℕ} {begin stop steps : ℕ} {a : Answer} → Match regs begin stop steps a → (old : List ℕ) {new : List ℕ} → new ≡ take 0 old ++ (row_of begin stop regs ++ drop (0 + row_length) old) → spans_length ≤ length regs → Reports old new (Matched steps) a
found-reports {regs} {begin} {stop} m old written size =
    let long = row_of-length begin stop regs size in
    (begin, m.state, m.is, written ∙ over_first (row_of begin stop regs) old row_length long ∙ rw (match-row m), rw (match-row m) at long)
