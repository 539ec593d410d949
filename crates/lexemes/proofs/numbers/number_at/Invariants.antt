use Rattle.lexemes.proofs.Digits.{Passed}
use Rattle.lexemes.proofs.numbers.number_at.Given as goal

abbrev pub invariant-loop-next : goal.invariant-loop-next
invariant-loop-next l = Passed l.base l.rule l.from l.next l.value
