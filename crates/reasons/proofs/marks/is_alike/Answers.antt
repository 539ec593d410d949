-- The texts are parts of the rule, and compared by `same`.
use mathlib.Core.Path.{sym}
use native.Mathlib.Omega.{arith}
use Rattle.reasons.specs.Items.{item_text}
use Rattle.reasons.specs.Laws.Decides.{decides}
use Rattle.reasons.specs.Laws.Items.{end-within, end-behind}
use Rattle.reasons.proofs.marks.is_alike.Goals as goal

pub slice_bounds-same-count : goal.slice_bounds-same-count
slice_bounds-same-count c = omega (arith, c.item_end-x.ensures, end-behind c.args.rule.now c.args.flags c.args.a, end-within c.args.rule.now c.args.flags c.args.a c.requires.0)

pub slice_bounds-same-start : goal.slice_bounds-same-start
slice_bounds-same-start c = omega (arith, c.item_end-x.ensures, end-behind c.args.rule.now c.args.flags c.args.a, end-within c.args.rule.now c.args.flags c.args.a c.requires.0)

pub slice_bounds-same-end : goal.slice_bounds-same-end
slice_bounds-same-end c = omega (arith, c.item_end-x.ensures, end-behind c.args.rule.now c.args.flags c.args.a, end-within c.args.rule.now c.args.flags c.args.a c.requires.0)

pub slice_bounds-same-count-2 : goal.slice_bounds-same-count-2
slice_bounds-same-count-2 c = omega (arith, c.item_end-y.ensures, end-behind c.args.rule.now c.args.flags c.args.b, end-within c.args.rule.now c.args.flags c.args.b c.requires.1)

pub slice_bounds-same-start-2 : goal.slice_bounds-same-start-2
slice_bounds-same-start-2 c = omega (arith, c.item_end-y.ensures, end-behind c.args.rule.now c.args.flags c.args.b, end-within c.args.rule.now c.args.flags c.args.b c.requires.1)

pub slice_bounds-same-end-2 : goal.slice_bounds-same-end-2
slice_bounds-same-end-2 c = omega (arith, c.item_end-y.ensures, end-behind c.args.rule.now c.args.flags c.args.b, end-within c.args.rule.now c.args.flags c.args.b c.requires.1)

pub returns : goal.returns
unfolding item_text
returns c = rw (sym c.item_end-x.ensures, sym c.item_end-y.ensures) (decides c.same.result c.same.ensures.0 c.same.ensures.1)
