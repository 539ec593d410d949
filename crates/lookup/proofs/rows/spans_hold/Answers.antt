-- The loop's invariant: what is asked of all groups is asked of those that are left.
use mathlib.Core.Path.{refl, sym, ◌∙◌}
use native.Mathlib.Omega.{arith}
use native.Mathlib.Numerals.{add-one}
use Rattle.syntax.specs.Limits.{group_limit, row_length}
use Rattle.lookup.specs.Laws.Rows.{span-told, spans-broken, spans_on, spans_all}
use Rattle.lookup.proofs.rows.spans_hold.Goals as goal

pub loop-passed-init : goal.loop-passed-init
unfolding group_limit
loop-passed-init c = (omega arith, refl)

pub overflow_mul-from : goal.overflow_mul-from
unfolding group_limit
overflow_mul-from c = omega arith

pub overflow_add-from : goal.overflow_add-from
unfolding group_limit
overflow_add-from c = omega arith

pub offset_bounds-row-passed : goal.offset_bounds-row-passed
unfolding row_length
offset_bounds-row-passed c = omega arith

pub bounds-row-passed : goal.bounds-row-passed
unfolding row_length
bounds-row-passed c = omega arith

pub overflow_mul-to : goal.overflow_mul-to
unfolding group_limit
overflow_mul-to c = omega arith

pub overflow_add-to : goal.overflow_add-to
unfolding group_limit
overflow_add-to c = omega arith

pub offset_bounds-row-passed-in-loop-passed : goal.offset_bounds-row-passed-in-loop-passed
unfolding row_length
offset_bounds-row-passed-in-loop-passed c = omega arith

pub bounds-row-passed-in-loop-passed : goal.bounds-row-passed-in-loop-passed
unfolding row_length
bounds-row-passed-in-loop-passed c = omega arith

pub returns-then-not-span_holds : goal.returns-then-not-span_holds
unfolding group_limit
returns-then-not-span_holds c = let row = c.args.row.now in
    let known = span-told _ row c.loop-passed.passed _ c.span_holds.ensures ∙ c.if-not-span_holds.true in
    sym (c.loop-passed.invariant.1 ∙ spans-broken _ row group_limit c.loop-passed.passed (omega arith) known)

pub loop-passed-smaller : goal.loop-passed-smaller
unfolding group_limit
loop-passed-smaller c = omega arith

pub loop-passed-preserved : goal.loop-passed-preserved
unfolding group_limit
loop-passed-preserved c = let row = c.args.row.now in
    let known = span-told _ row c.loop-passed.passed _ c.span_holds.ensures ∙ c.if-not-span_holds.false in
    (omega arith, rw (add-one c.loop-passed.passed) (c.loop-passed.invariant.1 ∙ spans_on _ row group_limit c.loop-passed.passed (omega arith) known))

pub returns : goal.returns
unfolding group_limit
returns c = sym (c.loop-passed.invariant.1 ∙ spans_all _ c.args.row.now group_limit c.loop-passed.passed (omega arith))
