-- The rule is held, and the line is short enough to be listed.
use native.Mathlib.Omega.{arith}
use Rattle.syntax.specs.Limits.{subject_limit, budget_limit, rule_area_need, work_per_step}
use Rattle.page_lines.specs.Laws.Holding.{holds-held}
use Rattle.page_lines.proofs.shown_lines.show_read.Goals as goal

pub list_held-listing-requires : goal.list_held-listing-requires
unfolding subject_limit budget_limit rule_area_need work_per_step
list_held-listing-requires c = holds-held _ _ c.requires.holds (omega arith) (omega arith) (omega arith)
