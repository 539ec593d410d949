-- The rule is held, and what is told of the line lies within it.
use native.Mathlib.Omega.{arith}
use Rattle.syntax.specs.Limits.{subject_limit, budget_limit, rule_area_need, work_per_step}
use Rattle.page_lines.specs.Laws.Closest.{told-inside}
use Rattle.page_lines.specs.Laws.Holding.{holds-held}
use Rattle.readings.proofs.lines.tell_unmatched.Goals as goal

pub explain_held-told-requires : goal.explain_held-told-requires
unfolding subject_limit budget_limit rule_area_need work_per_step
explain_held-told-requires c = holds-held _ _ c.requires.holds (omega arith) (omega arith) (omega arith)

pub put_reason-requires : goal.put_reason-requires
put_reason-requires c = let z = told-inside c.args.job.area.now c.args.line.now _ _ _ _ _ c.explain_held-told.result c.requires.holds c.explain_held-told.ensures.explains c.in-NotMatched.is in
    record {
      rule_len_bound = (omega (arith, c.args.job.rule_fits), omega arith);
      start_le_stop = (z.0, z.1, omega (arith, c.requires.line_len_bound));
    }
