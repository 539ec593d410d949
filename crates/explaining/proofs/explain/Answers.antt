-- `explain` meets its contract: a call is refused as it is prepared, or its inside explains the rule that stands, and its areas are cleared. No length
-- of the marks is too short.
use mathlib.Core.Path.{refl, sym}
use native.Mathlib.Omega.{arith}
use borrow.Author.Tests.{le-ltb}
use lib.ListN.{length}
use Rattle.std.proofs.lemmas.Result.{err_from_is_err_and}
use Rattle.syntax.specs.Limits.{rule_area_need, work_per_step}
use Rattle.semantics.specs.Calls.{work_area_need, explain_refused, markable, explain_rule, explain_call}
use Rattle.frame.specs.Inputs.{call_of}
use Rattle.frame.specs.Laws.Preparing.{is-ready, is-denied, rule_area-long, work_area-long, readied-held, denied-returns, readied-returns}
use Rattle.explaining.specs.Explanations.{explanation_of}
use Rattle.explaining.specs.Laws.Explanations.{explain-clears, accounts-told}
use Rattle.explaining.proofs.explain.Goals as goal

pub slice_bounds-explain_held-end : goal.slice_bounds-explain_held-end
unfolding rule_area_need
slice_bounds-explain_held-end c = let a = c.args in
    rule_area-long (is-ready (c.prepare.ensures 0 a.subject.now a.marks.now refl (le-ltb (length a.marks.now) 0 (omega arith))) _ c.in_ok-compiled.was)

pub slice_bounds-explain_held-end-2 : goal.slice_bounds-explain_held-end-2
unfolding rule_area_need
slice_bounds-explain_held-end-2 c = let a = c.args in
    sym (readied-held (is-ready (c.prepare.ensures 0 a.subject.now a.marks.now refl (le-ltb (length a.marks.now) 0 (omega arith))) _ c.in_ok-compiled.was)).code_size

pub explain_held-told-requires : goal.explain_held-told-requires
unfolding rule_area_need
explain_held-told-requires c = let a = c.args in
    readied-held (is-ready (c.prepare.ensures 0 a.subject.now a.marks.now refl (le-ltb (length a.marks.now) 0 (omega arith))) _ c.in_ok-compiled.was)

pub finish-requires : goal.finish-requires
unfolding work_area_need work_per_step
finish-requires c = let a = c.args in
    let p = is-ready (c.prepare.ensures 0 a.subject.now a.marks.now refl (le-ltb (length a.marks.now) 0 (omega arith))) _ c.in_ok-compiled.was in
    (rule_area-long p, omega (arith, work_area-long p, c.explain_held-told.auto.work))

pub returns-in_err-compiled : goal.returns-in_err-compiled
unfolding explain_call explanation_of
returns-in_err-compiled c = let a = c.args in
    let q = err_from_is_err_and c.from_residual.result c.from_residual.ensures.1 in
    rw (q.1, q.2) (denied-returns explain_refused 0 explain_rule (is-denied (c.prepare.ensures 0 a.subject.now a.marks.now refl (le-ltb (length a.marks.now) 0 (omega arith))) _ c.in_err-compiled.was))

pub returns : goal.returns
unfolding rule_area_need explain_call markable
returns c = let a = c.args in
    let d = call_of a.rule.now a.flags a.subject.now a.budget a.rule_area.now a.work_area.now a.marks.now a.names.now in
    let p = is-ready (c.prepare.ensures 0 a.subject.now a.marks.now refl (le-ltb (length a.marks.now) 0 (omega arith))) _ c.in_ok-compiled.was in
    let h = c.explain_held-told in
    readied-returns explain_refused 0 explain_rule (explain-clears d) p _ h.ensures.work_unchanged (accounts-told d p.tree _ _ (h.ensures.explains p.tree p.stands)) c.finish.ensures.rule_area_after c.finish.ensures.work_area_after
