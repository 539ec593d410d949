-- What the first pass used of the area is within it.
use native.Mathlib.Omega.{arith}
use Rattle.syntax.specs.Limits.{group_limit, spans_length}
use Rattle.tour.proofs.put_nodes.Goals as goal

pub read_rule-requires : goal.read_rule-requires
unfolding group_limit spans_length
read_rule-requires c = (c.requires.0, c.requires.1, omega arith)

pub put_numbers-requires : goal.put_numbers-requires
put_numbers-requires c = (rw c.in-Ok.is at c.read_rule.ensures).within

pub returns : goal.returns
returns c = (rw c.in-Ok.is at c.read_rule.ensures).within
