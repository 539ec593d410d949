-- What is shown lies within its text.
use native.Mathlib.Omega.{arith}
use lib.ListN.{length-take}
use Rattle.page.proofs.fields.put_value.Goals as goal

pub slice_bounds-put_shown-end : goal.slice_bounds-put_shown-end
slice_bounds-put_shown-end c = simp length-take (omega arith)
