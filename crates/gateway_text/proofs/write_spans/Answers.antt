-- The loop's invariant: the spans of the first i groups stand behind the position, in their room.
use native.Mathlib.Omega.{arith}
use Rattle.gateway_text.specs.Limits.{span_room}
use Rattle.gateway_text.specs.Laws.Lines.{spans_more}
use mathlib.Core.Path.{◌≡◌, refl}
use Prim.Native.Nat.{◌≤◌, ◌+◌, ◌*◌}
use lib.ListN.{length}
use Rattle.syntax.specs.Limits.{row_length, group_limit, spans_length}
use Rattle.text.specs.Laws.Writing.{wrote_nothing}
use Rattle.gateway_text.specs.Lines.{spans}
use Rattle.gateway_text.proofs.write_spans.Goals as goal

pub loop-i-init : goal.loop-i-init
unfolding spans
loop-i-init c = (wrote_nothing _ _, omega arith, refl)

pub overflow_mul-i : goal.overflow_mul-i
unfolding group_limit
overflow_mul-i c = omega arith

pub offset_bounds-row-i : goal.offset_bounds-row-i
unfolding group_limit
offset_bounds-row-i c = omega arith

pub bounds-row-i : goal.bounds-row-i
unfolding row_length spans_length group_limit
bounds-row-i c = omega arith

pub overflow_mul-i-in-loop-i : goal.overflow_mul-i-in-loop-i
unfolding group_limit
overflow_mul-i-in-loop-i c = omega arith

pub overflow_add-i-in-loop-i : goal.overflow_add-i-in-loop-i
unfolding group_limit
overflow_add-i-in-loop-i c = omega arith

pub offset_bounds-row-i-in-loop-i : goal.offset_bounds-row-i-in-loop-i
unfolding group_limit
offset_bounds-row-i-in-loop-i c = omega arith

pub bounds-row-i-in-loop-i : goal.bounds-row-i-in-loop-i
unfolding row_length spans_length group_limit
bounds-row-i-in-loop-i c = omega arith

pub write_span-end-requires : goal.write_span-end-requires
unfolding span_room
write_span-end-requires c = omega arith

pub loop-i-preserved : goal.loop-i-preserved
unfolding span_room
loop-i-preserved c = let a = c.args in
    let l = c.loop-i in
    let w = c.write_span-end in
    let place : 2 * (l.i + 1) ≡ 2 * l.i + 2 = omega arith in
    let next : 2 * (l.i + 1) + 1 ≡ 2 * l.i + 3 = omega arith in
    let k : l.end ≤ length a.out.now = omega arith in
    (spans_more a.row.now l.i k l.invariant.0 (rw (next, place) w.ensures.0), omega arith, omega arith)

pub shape_of-out : goal.shape_of-out
shape_of-out c = c.loop-i.invariant.2

pub returns : goal.returns
returns c = let l = c.loop-i in
    let e : l.i ≡ c.args.groups = omega arith in
    (rw e at l.invariant.0, rw e at l.invariant.1)
