-- The text of an item is a part of the rule.
use native.Mathlib.Omega.{arith}
use Rattle.reasons.specs.Laws.Items.{end-within, end-behind}
use Rattle.report_line.proofs.sentence.put_item.Goals as goal

pub overflow_sub-end : goal.overflow_sub-end
overflow_sub-end c = omega (arith, c.item_end-end.ensures, end-behind c.args.rule.now c.args.flags c.args.place, end-within c.args.rule.now c.args.flags c.args.place c.requires)

pub slice_bounds-put_quoted-count : goal.slice_bounds-put_quoted-count
slice_bounds-put_quoted-count c = omega (arith, c.item_end-end.ensures, end-behind c.args.rule.now c.args.flags c.args.place, end-within c.args.rule.now c.args.flags c.args.place c.requires)

pub slice_bounds-put_quoted-start : goal.slice_bounds-put_quoted-start
slice_bounds-put_quoted-start c = omega (arith, c.item_end-end.ensures, end-behind c.args.rule.now c.args.flags c.args.place, end-within c.args.rule.now c.args.flags c.args.place c.requires)

pub slice_bounds-put_quoted-end : goal.slice_bounds-put_quoted-end
slice_bounds-put_quoted-end c = omega (arith, c.item_end-end.ensures, end-behind c.args.rule.now c.args.flags c.args.place, end-within c.args.rule.now c.args.flags c.args.place c.requires)

pub overflow_sub-end-2 : goal.overflow_sub-end-2
overflow_sub-end-2 c = omega (arith, c.item_end-end.ensures, end-behind c.args.rule.now c.args.flags c.args.place, end-within c.args.rule.now c.args.flags c.args.place c.requires)
