-- Both lines end within the input.
use native.Mathlib.Omega.{arith}
use lib.ListN.{length-take}
use Rattle.text.specs.Laws.Lines.{line-least, line-within}
use Rattle.tour.proofs.show_both.Goals as goal

pub slice_bounds-show-end : goal.slice_bounds-show-end
slice_bounds-show-end c = simp length-take (omega arith)

pub slice_bounds-show-count : goal.slice_bounds-show-count
slice_bounds-show-count c = omega (arith, line-least _ _ _ c.line_end-to.ensures)

pub slice_bounds-show-start : goal.slice_bounds-show-start
slice_bounds-show-start c = omega (arith, line-least _ _ _ c.line_end-to.ensures, line-within _ _ _ c.line_end-to.ensures (omega arith))

pub slice_bounds-show-end-2 : goal.slice_bounds-show-end-2
slice_bounds-show-end-2 c = omega (arith, line-least _ _ _ c.line_end-to.ensures, line-within _ _ _ c.line_end-to.ensures (omega arith))
