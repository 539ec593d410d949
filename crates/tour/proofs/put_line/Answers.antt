-- The registers are fresh, so that the machine is ready for the walk from start 0.
use mathlib.Core.Path.{refl}
use native.Mathlib.Omega.{arith}
use lib.ListN.{replicate}
use Rattle.syntax.specs.Limits.{unset, registers, group_limit, rule_area_need, work_per_step}
use Rattle.semantics.specs.Calls.{work_area_need}
use Rattle.gateway_answers.specs.Limits.{gateway_budget}
use Rattle.tour.proofs.Turning.{starts}
use Rattle.tour.proofs.put_line.Goals as goal

pub put_walk-requires : goal.put_walk-requires
unfolding registers unset group_limit rule_area_need
put_walk-requires c = let r = c.requires.0.1 in record {
  regs_len = (refl, omega (arith, r.few), c.requires.2, omega (arith, c.requires.1));
  ready_for_some = starts c.args.code.now c.args.line.now (replicate 16000 0) r.tree c.args.entry 1000 c.start-m.result r.stands (λ i. omega (arith, c.type_inv.line i)) (omega arith) (omega arith) c.start-m.ensures;
}

pub put_answer-requires : goal.put_answer-requires
unfolding work_area_need work_per_step gateway_budget
put_answer-requires c = (c.requires.0, c.requires.1, omega (arith, c.put_walk.auto.work))
