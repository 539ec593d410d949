-- The rule is held, so that a line can be listed; the areas are as long as their arrays.
use native.Mathlib.Omega.{arith}
use Rattle.syntax.specs.Limits.{subject_limit, budget_limit, rule_area_need, work_per_step}
use Rattle.page_lines.specs.Laws.Holding.{holds-held}
use Rattle.page_lines.proofs.judging.judge.Goals as goal

pub list_held-listing-requires : goal.list_held-listing-requires
unfolding subject_limit budget_limit rule_area_need work_per_step
list_held-listing-requires c = holds-held _ _ c.requires.holds (omega arith) (omega arith) (omega arith)
