use Rattle.vectors.specs.Laws.Digits.{Counted}
use Rattle.vectors.proofs.number.Given as goal

abbrev pub invariant-loop-d : goal.invariant-loop-d
invariant-loop-d l = Counted l.digits l.limit l.d-index l.n
