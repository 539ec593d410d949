use lib.ListN.{length}
use Rattle.vectors.specs.Laws.Bytes.{Filled}
use Rattle.vectors.proofs.decode.Given as goal

abbrev pub invariant-loop-rest : goal.invariant-loop-rest
invariant-loop-rest l = Filled l.digits l.initial.out l.rest l.n l.out

abbrev pub decreases-loop-rest : goal.decreases-loop-rest
decreases-loop-rest l = length l.rest
