-- `spans_of` meets its contract: the lesser of two numbers, with the limit opened, since the code names it by its value.
use Rattle.syntax.specs.Limits.{spans_length}
use Rattle.noting.proofs.pieces.spans_of.Goals as goal

pub returns : goal.returns
unfolding spans_length
returns c = c.min.ensures
