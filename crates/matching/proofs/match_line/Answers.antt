-- `match_line` meets its contract: a call is refused as it is prepared, or its inside finds the rule that stands, and its areas are cleared.
use mathlib.Core.Path.{refl, sym}
use native.Mathlib.Omega.{arith}
use Rattle.syntax.specs.Limits.{rule_area_need, work_per_step, row_length}
use Rattle.semantics.specs.Calls.{work_area_need, match_refused, match_rule, match_call}
use Rattle.frame.specs.Inputs.{call_of}
use Rattle.frame.specs.Laws.Preparing.{is-ready, is-denied, rule_area-long, work_area-long, results-long, readied-held, denied-returns, readied-returns}
use Rattle.finding.specs.Outcomes.{outcome_of}
use Rattle.finding.specs.Laws.Outcomes.{match-clears, reports-told}
use Rattle.matching.proofs.match_line.Goals as goal

pub slice_bounds-match_held-end : goal.slice_bounds-match_held-end
unfolding rule_area_need row_length
slice_bounds-match_held-end c = let a = c.args in
    let p = c.prepare.ensures row_length a.subject.now a.results.now refl refl in
    rule_area-long (is-ready p _ c.in-Ok.is)

pub slice_bounds-match_held-end-in-Ok : goal.slice_bounds-match_held-end-in-Ok
unfolding rule_area_need row_length
slice_bounds-match_held-end-in-Ok c = let a = c.args in
    let p = c.prepare.ensures row_length a.subject.now a.results.now refl refl in
    sym (readied-held (is-ready p _ c.in-Ok.is)).code_size

pub match_held-told-requires : goal.match_held-told-requires
unfolding rule_area_need row_length
match_held-told-requires c = let a = c.args in
    let p = is-ready (c.prepare.ensures row_length a.subject.now a.results.now refl refl) _ c.in-Ok.is in
    (readied-held p, results-long p)

pub finish-requires : goal.finish-requires
unfolding row_length work_area_need work_per_step
finish-requires c = let a = c.args in
    let p = is-ready (c.prepare.ensures row_length a.subject.now a.results.now refl refl) _ c.in-Ok.is in
    (rule_area-long p, omega (arith, work_area-long p, c.match_held-told.auto.work))

pub returns-in-Err : goal.returns-in-Err
unfolding row_length match_call outcome_of
returns-in-Err c = let a = c.args in
    let p = c.prepare.ensures row_length a.subject.now a.results.now refl refl in
    denied-returns match_refused row_length match_rule (is-denied p _ c.in-Err.is)

pub returns-in-Ok : goal.returns-in-Ok
unfolding rule_area_need row_length match_call
returns-in-Ok c = let a = c.args in
    let d = call_of a.rule.now a.flags a.subject.now a.budget a.rule_area.now a.work_area.now a.results.now a.names.now in
    let p = is-ready (c.prepare.ensures row_length a.subject.now a.results.now refl refl) _ c.in-Ok.is in
    readied-returns match_refused row_length match_rule (match-clears d) p _ c.match_held-told.ensures.work_unchanged (reports-told d p.tree _ _ (c.match_held-told.ensures.finds p.tree p.stands)) c.finish.ensures.rule_area_after c.finish.ensures.work_area_after
