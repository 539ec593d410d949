-- What is lent of each area is within it.
use native.Mathlib.Omega.{arith}
use lib.ListN.{length-take}
use Rattle.vectors.specs.Laws.Digits.{number-most}
use Rattle.card_vectors.proofs.tell_line.Goals as goal

pub slice_bounds-rule_area-end : goal.slice_bounds-rule_area-end
slice_bounds-rule_area-end c = omega (arith, number-most _ _ _ c.number-a.ensures)

pub slice_bounds-tell-end-2 : goal.slice_bounds-tell-end-2
slice_bounds-tell-end-2 c = simp length-take (omega (arith, number-most _ _ _ c.number-a.ensures))

pub slice_bounds-area-end : goal.slice_bounds-area-end
slice_bounds-area-end c = omega (arith, number-most _ _ _ c.number-b.ensures)

pub slice_bounds-tell-end-3 : goal.slice_bounds-tell-end-3
slice_bounds-tell-end-3 c = simp length-take (omega (arith, number-most _ _ _ c.number-b.ensures))
