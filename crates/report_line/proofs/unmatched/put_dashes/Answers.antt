-- The columns lent are within the window.
use native.Mathlib.Omega.{arith}
use lib.ListN.{length-take}
use Rattle.report_line.proofs.unmatched.put_dashes.Goals as goal

pub slice_bounds-put-end : goal.slice_bounds-put-end
slice_bounds-put-end c = simp length-take (omega arith)
