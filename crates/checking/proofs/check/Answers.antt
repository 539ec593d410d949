-- `check` meets its contract: a call is refused as it is prepared, also for what a check cannot follow; or its inside checks the rule that stands, and its areas are
-- cleared.
use mathlib.Core.Path.{refl, sym}
use Rattle.std.proofs.lemmas.Result.{err_from_is_err_and}
use Rattle.syntax.specs.Limits.{rule_area_need, work_per_step, row_length}
use Rattle.semantics.specs.Calls.{work_area_need}
use Rattle.semantics.specs.Checks.{check_refused, check_rule, check_call}
use Rattle.frame.specs.Inputs.{call_of}
use Rattle.frame.specs.Laws.Preparing.{is-ready, is-denied, rule_area-long, work_area-long, results-long, readied-held, denied-as, readied-as}
use Rattle.checking.specs.Verdicts.{verdict_of}
use Rattle.checking.specs.Laws.Calls.{check-declines, check-clears, reports-told}
use Rattle.checking.proofs.check.Goals as goal

pub slice_bounds-check_held-end : goal.slice_bounds-check_held-end
unfolding rule_area_need row_length
slice_bounds-check_held-end c = let a = c.args in
    let p = c.prepare.ensures row_length a.subject.now a.results.now refl refl in
    rule_area-long (is-ready p _ c.in_ok-compiled.was)

pub slice_bounds-check_held-end-2 : goal.slice_bounds-check_held-end-2
unfolding rule_area_need row_length
slice_bounds-check_held-end-2 c = let a = c.args in
    let p = c.prepare.ensures row_length a.subject.now a.results.now refl refl in
    sym (readied-held (is-ready p _ c.in_ok-compiled.was)).code_size

pub check_held-told-requires : goal.check_held-told-requires
unfolding rule_area_need row_length
check_held-told-requires c = let a = c.args in
    let p = is-ready (c.prepare.ensures row_length a.subject.now a.results.now refl refl) _ c.in_ok-compiled.was in
    ((p.tree, p.stands), (readied-held p).subject_fits, results-long p)

pub finish-requires : goal.finish-requires
unfolding row_length work_area_need work_per_step
finish-requires c = let a = c.args in
    let p = is-ready (c.prepare.ensures row_length a.subject.now a.results.now refl refl) _ c.in_ok-compiled.was in
    (rule_area-long p, work_area-long p)

pub returns-in_err-compiled : goal.returns-in_err-compiled
unfolding row_length check_call verdict_of
returns-in_err-compiled c = let a = c.args in
    let p = c.prepare.ensures row_length a.subject.now a.results.now refl refl in
    let d = call_of a.rule.now a.flags a.subject.now a.budget a.rule_area.now a.work_area.now a.results.now a.names.now in
    let q = err_from_is_err_and c.from_residual.result c.from_residual.ensures.1 in
    rw (rw q.2 at q.1) (denied-as check_refused row_length (check_rule a.proposal.now) (λ x _ e. check-declines a.proposal.now d x _ _ e) (is-denied p _ c.in_err-compiled.was))

pub returns : goal.returns
unfolding rule_area_need row_length check_call
returns c = let a = c.args in
    let d = call_of a.rule.now a.flags a.subject.now a.budget a.rule_area.now a.work_area.now a.results.now a.names.now in
    let p = is-ready (c.prepare.ensures row_length a.subject.now a.results.now refl refl) _ c.in_ok-compiled.was in
    readied-as check_refused row_length (check_rule a.proposal.now) p (check-clears a.proposal.now d p.tree (p.followed refl)) _ refl (reports-told a.proposal.now d p.tree (p.followed refl) _ _ (c.check_held-told.ensures p.tree p.stands)) c.finish.ensures.rule_area_after c.finish.ensures.work_area_after
