-- The loop's invariant: what is asked of all rows is asked of those that are left.
use mathlib.Core.Path.{◌≡◌, sym, ◌∙◌}
use Prim.Native.Nat.{◌*◌, ◌-◌}
use native.Mathlib.Omega.{arith}
use native.Mathlib.Numerals.{add-one}
use lib.ListN.{length-take, length-drop}
use Rattle.syntax.specs.Limits.{group_limit, spans_length, row_length}
use Rattle.fields_columns.specs.Columns.{names_from}
use Rattle.fields_compared.specs.Laws.Comparing.{row-part, ambiguous-here, ambiguous-on, ambiguous-none}
use Rattle.fields_compared.proofs.is_ambiguous.Goals as goal

pub loop-i-init : goal.loop-i-init
loop-i-init c = let e : c.args.rows - 0 ≡ c.args.rows = omega arith in
    let z : 0 * row_length ≡ 0 = omega arith in
    rw (e, z)

pub overflow_mul-from : goal.overflow_mul-from
unfolding row_length spans_length group_limit
overflow_mul-from c = omega arith

pub overflow_add-to : goal.overflow_add-to
unfolding row_length spans_length group_limit
overflow_add-to c = omega arith

pub offset_bounds-results-from : goal.offset_bounds-results-from
unfolding row_length spans_length group_limit
offset_bounds-results-from c = omega arith

pub slice_bounds-is_other-count : goal.slice_bounds-is_other-count
unfolding row_length spans_length group_limit
slice_bounds-is_other-count c = omega arith

pub slice_bounds-is_other-start : goal.slice_bounds-is_other-start
unfolding row_length spans_length group_limit
slice_bounds-is_other-start c = omega arith

pub slice_bounds-is_other-end : goal.slice_bounds-is_other-end
unfolding row_length spans_length group_limit
slice_bounds-is_other-end c = omega arith

pub is_other-requires : goal.is_other-requires
unfolding row_length spans_length group_limit
is_other-requires c = record {
  columned = c.requires.columned;
  x_len = (c.requires.x_len.0, simp (length-take, length-drop) (omega arith));
}

pub returns-then-is_other : goal.returns-then-is_other
unfolding row_length
returns-then-is_other c = let a = c.args in
    let l = c.loop-i in
    let e = sym (rw (row-part l.i a.results.now) at c.is_other.ensures) ∙ c.if-is_other.true in
    sym (l.invariant ∙ ambiguous-here a.names.now a.line.now a.standing.now (names_from a.columns.now 0 a.count) a.x.now a.results.now l.i a.rows (omega arith) e)

pub loop-i-preserved : goal.loop-i-preserved
unfolding row_length
loop-i-preserved c = let a = c.args in
    let l = c.loop-i in
    let e = sym (rw (row-part l.i a.results.now) at c.is_other.ensures) ∙ c.if-is_other.false in
    rw (add-one l.i) (l.invariant ∙ ambiguous-on a.names.now a.line.now a.standing.now (names_from a.columns.now 0 a.count) a.x.now a.results.now l.i a.rows (omega arith) e)

pub returns : goal.returns
returns c = let a = c.args in
    let l = c.loop-i in
    sym (l.invariant ∙ ambiguous-none a.names.now a.line.now a.standing.now (names_from a.columns.now 0 a.count) a.x.now a.results.now l.i a.rows (omega arith))
