-- The rows that are shown are within the results.
use native.Mathlib.Omega.{arith}
use lib.ListN.{length-take}
use Rattle.page_lines.proofs.shown_parts.show_rows.Goals as goal

pub slice_bounds-put_readings-end : goal.slice_bounds-put_readings-end
slice_bounds-put_readings-end c = simp length-take (omega arith)
