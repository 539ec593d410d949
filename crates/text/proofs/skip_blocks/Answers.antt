-- The loop's invariant: the line that begins where the loop stands ends where the whole line does. Behind the last block nothing is left.
use Prim.Native.Nat.{◌+◌}
use native.Mathlib.Omega.{arith}
use Rattle.text.specs.Laws.Lines.{out}
use Rattle.text.proofs.skip_blocks.Goals.{else-loop-i-test, then-loop-i-test+else-input-i-lt-BLOCK+else-ends_within+else-i-end-i-gt16}
use Rattle.text.proofs.skip_blocks.Goals as goal

pub returns : goal.returns
returns c = let l = c.loop-i in
    let b = c.args.input.now in
    elim c.loop-i-test.branch [
      | else-loop-i-test w ↦ omega (arith, c.max.ensures, l.invariant.0, l.invariant.1, l.auto.i, out b l.i (omega (arith, l.invariant.0, l.auto.i, w.loop-i-test.false)), out b c.max.result (omega (arith, c.max.ensures)))
      | then-loop-i-test+else-input-i-lt-BLOCK+else-ends_within+else-i-end-i-gt16 w ↦ omega (arith, c.max.ensures, l.invariant.0, l.invariant.1, l.auto.i, w.ends_within.ensures w.if-ends_within.false, w.if-input-i-lt-BLOCK.false, w.loop-i-test.true, out b (l.i + 16) (omega (arith, l.invariant.0, l.auto.i, w.loop-i-test.true)), out b c.max.result (omega (arith, c.max.ensures)))
    ]
