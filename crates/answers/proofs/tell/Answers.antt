-- `tell` meets its contract: the six numbers are written as the definition lists them.
use mathlib.Core.Path.{refl}
use Rattle.answers.specs.Answers.{numbers}
use Rattle.answers.proofs.tell.Goals as goal

pub returns : goal.returns
unfolding numbers
returns c = rw (c.low_half.ensures, c.high_half.ensures, c.low_half-2.ensures) refl
