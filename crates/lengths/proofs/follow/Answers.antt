-- `follow` meets its contract: a sum that is capped, and the first of two places four times.
use native.Mathlib.Omega.{arith}
use Rattle.syntax.specs.Limits.{length_limit}
use Rattle.syntax.specs.Lengths.{capped}
use Rattle.lengths.proofs.follow.Goals as goal

pub overflow_add-a : goal.overflow_add-a
unfolding length_limit
overflow_add-a c = omega (arith, c.requires.0, c.requires.1)

pub returns : goal.returns
unfolding capped length_limit
returns c = record { least = c.min.ensures; reference = c.or.ensures; idle = c.or-2.ensures; form = c.or-3.ensures; crowd = c.or-4.ensures }
