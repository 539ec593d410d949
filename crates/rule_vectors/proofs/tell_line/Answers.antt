-- As many bytes are decoded as there is room for: a rule's.
use native.Mathlib.Omega.{arith}
use lib.ListN.{length-take}
use Rattle.syntax.specs.Limits.{rule_limit}
use Rattle.rule_vectors.proofs.tell_line.Goals as goal

pub tell-requires : goal.tell-requires
unfolding rule_limit
tell-requires c = (simp length-take (omega (arith, c.decode-n.ensures.number)), c.requires)
