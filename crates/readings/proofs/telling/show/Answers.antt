-- The rows that are shown are within the results.
use native.Mathlib.Omega.{arith}
use lib.ListN.{length-take}
use Rattle.readings.proofs.telling.show.Goals as goal

pub slice_bounds-put_line-end : goal.slice_bounds-put_line-end
slice_bounds-put_line-end c = simp length-take (omega arith)
