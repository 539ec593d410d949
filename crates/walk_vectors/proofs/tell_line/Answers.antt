-- What is decoded is no longer than the arrays that it is decoded into.
use Rattle.vectors.specs.Laws.Digits.{number-most}
use native.Mathlib.Omega.{arith}
use lib.ListN.{length-take}
use Rattle.syntax.specs.Limits.{rule_limit}
use Rattle.walk_vectors.proofs.tell_line.Goals as goal

pub tell-requires : goal.tell-requires
unfolding rule_limit
tell-requires c = (simp length-take (omega (arith, c.decode-n.ensures.number)), c.requires.0, simp length-take (omega (arith, c.decode-k.ensures.number)), omega (arith, number-most _ _ _ c.number-3.ensures, c.requires.1), omega (arith, number-most _ _ _ c.number-3.ensures))
