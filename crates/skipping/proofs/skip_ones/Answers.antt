-- `skip_ones` meets its contract. The loop's invariant: no byte passed is in the set. The measure is what is left of the subject.
use Prim.Native.Nat.{◌+◌}
use native.Mathlib.Omega.{arith}
use Rattle.skipping.proofs.Passing.{misses-none, misses-next}
use Rattle.skipping.proofs.skip_ones.Goals as goal

pub loop-i-init : goal.loop-i-init
loop-i-init c = (omega arith, omega arith, misses-none c.args.set.now c.args.subject.now c.args.at c.args.at (omega arith))

pub returns-then-contains : goal.returns-then-contains
returns-then-contains c = c.loop-i.invariant

pub loop-i-preserved : goal.loop-i-preserved
loop-i-preserved c = (omega (arith, c.loop-i.invariant.0), omega arith, misses-next c.args.set.now c.args.subject.now c.args.at c.loop-i.i (c.loop-i.i + 1) c.contains.result c.loop-i.invariant.2 (omega arith) c.contains.ensures c.if-contains.false (omega arith))

pub returns : goal.returns
returns c = c.loop-i.invariant
