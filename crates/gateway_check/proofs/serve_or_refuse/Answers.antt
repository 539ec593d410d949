-- A rule that is ready stands compiled in its area.
use native.Mathlib.Omega.{arith}
use Rattle.syntax.specs.Limits.{rule_area_need}
use Rattle.gateway_check.proofs.serve_or_refuse.Goals as goal

pub prepare-requires : goal.prepare-requires
unfolding rule_area_need
prepare-requires c = omega arith

pub answer_input-requires : goal.answer_input-requires
answer_input-requires c = let z = rw c.in-Ok.is at c.prepare.ensures in ((z.tree, z.stands), z.few)
