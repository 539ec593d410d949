-- `count_round` meets its contract: the least of one more and the greatest bound.
use native.Mathlib.Omega.{arith}
use Rattle.syntax.specs.Limits.{bound_limit}
use Rattle.machine.specs.Moves.{bump}
use Rattle.repeats.proofs.count_round.Goals as goal

pub returns-then-n-lt-BOUND_LIMIT : goal.returns-then-n-lt-BOUND_LIMIT
unfolding bump bound_limit
returns-then-n-lt-BOUND_LIMIT c = omega arith

pub returns : goal.returns
unfolding bump bound_limit
returns c = omega arith
