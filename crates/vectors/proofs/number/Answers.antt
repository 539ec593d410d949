-- The loop's invariant: the digits so far stand for `n`, which is within the limit, and with it the rest stand for the whole.
use Rattle.std.proofs.Common.{arith}
use Rattle.vectors.specs.Laws.Digits.{digit-small, counted_none, counted-more, counted-over, counted-all}
use Rattle.vectors.proofs.number.Goals as goal

pub loop-d-init : goal.loop-d-init
loop-d-init c = counted_none _ _

pub overflow_add-n : goal.overflow_add-n
overflow_add-n c = omega (arith, digit-small _ _ c.digit.ensures, c.loop-d.invariant.small)

pub returns-then-n-limit : goal.returns-then-n-limit
returns-then-n-limit c = counted-over _ _ _ _ c.loop-d.invariant (omega arith) _ (rw c.digit.ensures) c.if-n-limit.true

pub loop-d-preserved : goal.loop-d-preserved
loop-d-preserved c = counted-more _ _ _ _ c.loop-d.invariant (omega arith) _ (rw c.digit.ensures) (omega arith)

pub returns : goal.returns
returns c = counted-all _ _ _ _ c.loop-d.invariant (omega arith)
