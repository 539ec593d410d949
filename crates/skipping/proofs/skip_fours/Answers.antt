-- `skip_fours` meets its contract. The loop's invariant: no byte passed is in the set. The measure is what is left of the subject.
use mathlib.Core.Path.{◌≡◌}
use Prim.Native.Nat.{◌+◌}
use native.Mathlib.Omega.{arith}
use Rattle.skipping.proofs.Passing.{misses-none, misses-then}
use Rattle.skipping.proofs.skip_fours.Goals as goal

pub loop-i-init : goal.loop-i-init
loop-i-init c = (omega arith, omega arith, misses-none c.args.set.now c.args.subject.now c.args.at c.args.at (omega arith))

pub overflow_add-i : goal.overflow_add-i
overflow_add-i c = omega (arith, c.loop-i.invariant.1)

pub returns-then-k-lt4 : goal.returns-then-k-lt4
returns-then-k-lt4 c = (omega (arith, c.loop-i.invariant.0), omega (arith, c.nearby-k.ensures.0), misses-then c.args.set.now c.args.subject.now c.args.at c.loop-i.i (c.loop-i.i + c.nearby-k.result) c.loop-i.invariant.2 c.nearby-k.ensures.1)

pub loop-i-preserved : goal.loop-i-preserved
loop-i-preserved c = let z : c.nearby-k.result ≡ 4 = omega (arith, c.nearby-k.ensures.0) in (omega (arith, c.loop-i.invariant.0), omega arith, misses-then c.args.set.now c.args.subject.now c.args.at c.loop-i.i (c.loop-i.i + 4) c.loop-i.invariant.2 (rw z at c.nearby-k.ensures.1))

pub returns : goal.returns
returns c = c.loop-i.invariant
