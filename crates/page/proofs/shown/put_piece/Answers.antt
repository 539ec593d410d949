-- What is shown lies within its text.
use native.Mathlib.Omega.{arith}
use lib.ListN.{length-take}
use Rattle.page.proofs.shown.put_piece.Goals as goal

pub slice_bounds-put-end : goal.slice_bounds-put-end
slice_bounds-put-end c = simp length-take (omega arith)
