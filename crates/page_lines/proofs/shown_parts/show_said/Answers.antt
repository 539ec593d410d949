-- The sentence is within its buffer.
use native.Mathlib.Omega.{arith}
use lib.ListN.{length-take}
use Rattle.page_lines.proofs.shown_parts.show_said.Goals as goal

pub slice_bounds-put_paragraph-end : goal.slice_bounds-put_paragraph-end
slice_bounds-put_paragraph-end c = simp length-take (omega arith)
