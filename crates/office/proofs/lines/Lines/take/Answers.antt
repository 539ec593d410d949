-- The end of a line that begins in a piece is in it.
use native.Mathlib.Omega.{arith}
use Rattle.office.proofs.LineEnds.{ends-before}
use Rattle.office.proofs.lines.Lines.take.Goals as goal

pub slice_bounds-gather-end : goal.slice_bounds-gather-end
slice_bounds-gather-end g c = omega (arith, ends-before _ _ _ c.line_end-stop.ensures c.args.self.now.within.ordered (omega (arith, c.args.self.now.within.fits)))
