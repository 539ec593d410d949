-- `enter_repeat` meets its contract: it is the decision after no rounds.
use Rattle.machine.specs.Moves.{carry_out}
use Rattle.repeats.proofs.enter_repeat.Goals as goal

pub returns : goal.returns
unfolding carry_out
returns c = λ sub. c.decide.ensures
