-- As many bytes are lent as the rule has.
use native.Mathlib.Omega.{arith}
use lib.ListN.{length-take}
use Rattle.report_line.proofs.unmatched.put_marked.Goals as goal

pub slice_bounds-put_underlined-end-2 : goal.slice_bounds-put_underlined-end-2
slice_bounds-put_underlined-end-2 c = simp length-take (omega arith)

pub put_underlined-requires : goal.put_underlined-requires
put_underlined-requires c = (c.requires.0, simp length-take (omega arith), c.requires.1)
