-- As many bytes are lent as the rule has.
use native.Mathlib.Omega.{arith}
use lib.ListN.{length-take}
use Rattle.page_lines.proofs.shown_parts.sign_items.Goals as goal

pub slice_bounds-underline-end-2 : goal.slice_bounds-underline-end-2
slice_bounds-underline-end-2 c = simp length-take (omega arith)

pub underline-requires : goal.underline-requires
underline-requires c = (c.requires.0, simp length-take (omega arith))
