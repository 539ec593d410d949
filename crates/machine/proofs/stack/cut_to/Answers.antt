-- `cut_to` meets its contract. The loop's invariant is `Cutting`; the measure is the frames still to be looked at.
use native.Mathlib.Omega.{arith}
use Rattle.machine.proofs.Frames.{cutting-start, cutting-on, cutting-done, cut-none}
use Rattle.machine.proofs.stack.cut_to.Goals as goal

pub returns-then-height-mark : goal.returns-then-height-mark
returns-then-height-mark c = (omega arith, cut-none c.args.work.now _ _ c.if-height-mark.true)

pub loop-i-init : goal.loop-i-init
loop-i-init c = cutting-start c.args.work.now _ _ (omega (arith, c.if-height-mark.false))

pub keep_undo-h-requires : goal.keep_undo-h-requires
keep_undo-h-requires c = let g = c.loop-i.invariant in omega (arith, g.low, g.size, c.loop-i-test.true, c.requires)

pub loop-i-preserved : goal.loop-i-preserved
loop-i-preserved c = cutting-on c.loop-i.invariant c.loop-i-test.true _ _ c.keep_undo-h.ensures.0 c.keep_undo-h.auto.work c.keep_undo-h.ensures.1 c.keep_undo-h.ensures.2

pub shape_of-work : goal.shape_of-work
shape_of-work c = c.loop-i.invariant.size

pub returns : goal.returns
returns c = let g = c.loop-i.invariant in (omega (arith, g.low, g.below), cutting-done g (omega (arith, c.loop-i-test.false)))
