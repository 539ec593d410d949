-- The bytes that are put are a part of those that were lent.
use native.Mathlib.Omega.{arith}
use lib.ListN.{length-take}
use Rattle.propose.proofs.lines.put_proposed.Goals as goal

pub slice_bounds-put_bytes-end : goal.slice_bounds-put_bytes-end
slice_bounds-put_bytes-end c = simp length-take (omega arith)
