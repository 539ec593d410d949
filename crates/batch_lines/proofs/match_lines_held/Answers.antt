-- `match_lines_held` meets its contract. The loop's invariant is `Filling`, with registers that are fresh; the measure is the bytes that are left.
use mathlib.Core.Path.{sym}
use Prim.Native.Nat.{◌+◌, ◌-◌}
use native.Mathlib.Omega.{arith}
use Rattle.syntax.specs.Limits.{unset, registers, height_limit, nesting_limit, group_limit, spans_length, row_length, part_length, rule_area_need}
use Rattle.machine.specs.Theorem.{clear-all}
use Rattle.finding.specs.Laws.Registers.{clear-fresh}
use Rattle.batch_lines.proofs.Filling.{filling-begins, filling-ends, line-inside, part-inside, part-lent, filling-on}
use Rattle.batch_lines.proofs.match_lines_held.Goals as goal

pub loop-from-init : goal.loop-from-init
unfolding unset registers height_limit nesting_limit spans_length group_limit
loop-from-init c = (filling-begins c.args.code.now c.args.entry c.args.buffer.now c.args.budget c.args.work.now c.args.results.now c.requires.held.1, clear-fresh c.args.groups clear-all)

pub find_opening-opening-requires : goal.find_opening-opening-requires
unfolding rule_area_need
find_opening-opening-requires c = omega (arith, c.requires.held.0.code_size)

pub overflow_add-behind : goal.overflow_add-behind
unfolding part_length row_length spans_length group_limit
overflow_add-behind c = omega (arith, c.loop-from.invariant.0.long, part-inside c.loop-from.invariant.0 c.loop-from-test.true _ c.line_end-to.ensures)

pub slice_bounds-match_part-end : goal.slice_bounds-match_part-end
unfolding registers height_limit nesting_limit spans_length group_limit
slice_bounds-match_part-end c = sym c.loop-from.invariant.1.size

pub offset_bounds-results-at : goal.offset_bounds-results-at
unfolding part_length row_length spans_length group_limit
offset_bounds-results-at c = omega (arith, c.loop-from.invariant.0.long, part-inside c.loop-from.invariant.0 c.loop-from-test.true _ c.line_end-to.ensures)

pub slice_bounds-match_part-end-in-loop-from : goal.slice_bounds-match_part-end-in-loop-from
unfolding part_length row_length spans_length group_limit
slice_bounds-match_part-end-in-loop-from c = part-inside c.loop-from.invariant.0 c.loop-from-test.true _ c.line_end-to.ensures

pub match_part-requires : goal.match_part-requires
unfolding part_length row_length spans_length group_limit
match_part-requires c = let h = c.requires.held.0 in
    let inside = line-inside c.loop-from.invariant.0 c.loop-from-test.true _ c.line_end-to.ensures in
    (record { tree = h.tree; stands = h.stands; code_size = h.code_size; subject_fits = h.subject_fits; work_fits = omega (arith, h.work_fits, c.loop-from.invariant.0.wide); budget_fits = h.budget_fits }, c.find_opening-opening.ensures, inside.0, inside.1, part-lent c.loop-from.invariant.0 c.loop-from-test.true _ c.line_end-to.ensures (c.loop-from.at + part_length - c.loop-from.at) (omega arith), c.requires.held.2, c.loop-from.invariant.1)

pub overflow_add-from : goal.overflow_add-from
overflow_add-from c = omega (arith, (line-inside c.loop-from.invariant.0 c.loop-from-test.true _ c.line_end-to.ensures).1)

pub loop-from-smaller : goal.loop-from-smaller
loop-from-smaller c = omega (arith, c.loop-from-test.true, (line-inside c.loop-from.invariant.0 c.loop-from-test.true _ c.line_end-to.ensures).0)

pub loop-from-preserved : goal.loop-from-preserved
unfolding part_length row_length spans_length group_limit
loop-from-preserved c = let m = c.match_part in
    (filling-on c.loop-from.invariant.0 c.loop-from-test.true _ c.line_end-to.ensures (c.loop-from.at + part_length - c.loop-from.at) (omega arith) m.auto.work m.ensures.work_unchanged m.auto.part m.ensures.tells, m.ensures.keeps c.requires.stands.0 c.requires.stands.1 c.requires.stands.2 c.requires.held.2)

pub shape_of-work : goal.shape_of-work
shape_of-work c = c.loop-from.invariant.0.wide

pub shape_of-results : goal.shape_of-results
shape_of-results c = c.loop-from.invariant.0.long

pub returns : goal.returns
returns c = record {
  fills = filling-ends c.loop-from.invariant.0 c.loop-from-test.false;
  work_unchanged = c.loop-from.invariant.0.rest;
}
