-- What was read is within its buffer: so `read_content` promises.
use native.Mathlib.Omega.{arith}
use lib.ListN.{length-take}
use Rattle.card.proofs.showing.show_file.Goals as goal

pub slice_bounds-show-end : goal.slice_bounds-show-end
slice_bounds-show-end c = simp length-take (omega arith)
