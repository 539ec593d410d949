-- Each item that is named stands behind the one before, so that they end, and no more are counted than are named.
use native.Mathlib.Omega.{arith}
use Rattle.report_line.proofs.sentence.put_items.Goals as goal

pub loop-place-init : goal.loop-place-init
loop-place-init c = omega (arith, c.next_new-place.ensures.within)

pub loop-place-smaller : goal.loop-place-smaller
loop-place-smaller c = omega (arith, c.next_new-next.ensures.onward)

pub loop-place-preserved : goal.loop-place-preserved
loop-place-preserved c = (c.next_new-next.ensures.within, omega arith)
