use Prim.Native.Nat.{◌≤◌}
use lib.ListN.{length}
use Rattle.call_vectors.proofs.pieces.Given as goal

abbrev pub invariant-loop-rest : goal.invariant-loop-rest
invariant-loop-rest l = l.n ≤ length l.area

abbrev pub decreases-loop-rest : goal.decreases-loop-rest
decreases-loop-rest l = length l.rest
