-- `tell_failures` meets its contract: the eleven numbers are written as the definitions list them.
use mathlib.Core.Path.{refl}
use Rattle.semantics.specs.Batches.{low}
use Rattle.answers.specs.Answers.{numbers, failure_numbers}
use Rattle.answers.proofs.explanations.tell_failures.Goals as goal

pub returns : goal.returns
unfolding low numbers failure_numbers
returns c = rw (c.low_half.ensures, c.high_half.ensures) refl
