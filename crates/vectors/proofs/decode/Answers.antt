-- The loop's invariant: the bytes of the digits passed stand over the first of the slice, and those of the rest are left.
use Rattle.std.proofs.Common.{arith}
use Rattle.vectors.specs.Laws.Digits.{digit-small}
use Rattle.vectors.specs.Laws.Bytes.{filled-length, filled-all, filled_next}
use Rattle.vectors.proofs.decode.Goals as goal

pub overflow_mul-out : goal.overflow_mul-out
overflow_mul-out c = omega (arith, digit-small _ _ c.digit.ensures)

pub overflow_add-out : goal.overflow_add-out
overflow_add-out c = omega (arith, digit-small _ _ c.digit.ensures, digit-small _ _ c.digit-in-len2-up.ensures)

pub loop-rest-preserved : goal.loop-rest-preserved
loop-rest-preserved c = let l = c.loop-rest in
    filled_next _ _ _ _ _ l.invariant c.in-len2-up.len_at_least (omega (arith, filled-length _ _ _ _ _ l.invariant, l.invariant.room)) _ _ c.digit.ensures c.digit-in-len2-up.ensures

pub returns : goal.returns
returns c = filled-all _ _ _ _ _ c.loop-rest.invariant (omega arith)
