-- The loop's invariant: one more line is counted than there are 0A so far, which is never more than bytes and one.
use mathlib.Core.Path.{refl}
use native.Mathlib.Omega.{arith}
use Rattle.semantics.specs.BatchDemands.{newlines}
use Rattle.counting.specs.Laws.Lines.{counts-block, counted-all, counted_none}
use Rattle.counting.proofs.count_lines.Goals as goal

pub returns-then-buffer-eq0 : goal.returns-then-buffer-eq0
returns-then-buffer-eq0 c = counted_none c.args.buffer.now c.if-buffer-eq0.true

pub overflow_sub-last : goal.overflow_sub-last
overflow_sub-last c = let t = c.if-buffer-eq0.false in omega arith

pub loop-i-init : goal.loop-i-init
unfolding newlines
loop-i-init c = (omega arith, omega arith, refl)

pub count_block-requires : goal.count_block-requires
count_block-requires c = (omega (arith, c.min-size.ensures), omega (arith, c.min-size.ensures))

pub overflow_add-lines : goal.overflow_add-lines
overflow_add-lines c = omega (arith, c.loop-i.invariant.1, c.min-size.ensures, c.count_block.ensures.0)

pub overflow_add-i : goal.overflow_add-i
overflow_add-i c = omega (arith, c.loop-i.invariant.0, c.min-size.ensures)

pub loop-i-smaller : goal.loop-i-smaller
loop-i-smaller c = omega (arith, c.min-size.ensures, c.loop-i-test.true)

pub loop-i-preserved : goal.loop-i-preserved
loop-i-preserved c = let l = c.loop-i in
    let s = c.min-size in
    let n = c.count_block in
    (omega (arith, s.ensures, c.loop-i-test.true), omega (arith, l.invariant.1, n.ensures.0), counts-block c.args.buffer.now l.i s.result l.lines n.result l.invariant.2 n.ensures.1)

pub returns : goal.returns
returns c = let l = c.loop-i in
    let t = c.if-buffer-eq0.false in
    counted-all c.args.buffer.now l.i l.lines (omega (arith, l.invariant.0, c.loop-i-test.false)) l.invariant.2
