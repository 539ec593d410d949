-- A rule that is ready stands compiled in its area.
use native.Mathlib.Omega.{arith}
use Rattle.syntax.specs.Limits.{rule_area_need}
use Rattle.gateway.proofs.serve_or_refuse.Goals as goal

pub prepare-requires : goal.prepare-requires
unfolding rule_area_need
prepare-requires c = omega arith

pub serve-requires : goal.serve-requires
unfolding rule_area_need
serve-requires c = record {
  by_index = (_, rw c.in-Ok.is at c.prepare.ensures);
  code_len = (omega arith, omega arith);
}
