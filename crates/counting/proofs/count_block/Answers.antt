-- The loop's invariant: the 0A of the bytes so far are counted, and they are no more than those.
use mathlib.Core.Path.{refl}
use Prim.Native.Nat.{◌+◌}
use native.Mathlib.Omega.{arith}
use lib.ListN.{get_or}
use Rattle.semantics.specs.Assertions.{is_newline}
use Rattle.semantics.specs.BatchDemands.{newlines}
use Rattle.counting.specs.Laws.Lines.{counts-at-most, counts-next, counted-size}
use Rattle.counting.proofs.count_block.Goals as goal

pub loop-i-init : goal.loop-i-init
unfolding newlines
loop-i-init c = (omega arith, omega arith, refl)

pub loop-i-preserved : goal.loop-i-preserved
loop-i-preserved c = let l = c.loop-i in
    let n = c.count_newline-count in
    let a = c.args in
    let b = c.args.buffer.now in
    (omega arith, omega (arith, n.ensures, counts-at-most (is_newline (get_or b (a.from + l.i) 0)) l.count), counts-next b a.from l.i l.count n.result (omega arith) l.invariant.2 n.ensures)

pub returns : goal.returns
returns c = let l = c.loop-i in
    let a = c.args in
    (omega arith, counted-size a.buffer.now a.from a.size l.i l.count (omega (arith, l.invariant.0, c.loop-i-test.false)) l.invariant.2)
