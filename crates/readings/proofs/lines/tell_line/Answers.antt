-- The rule is held, and a line that does not fill its buffer is short enough to be listed.
use native.Mathlib.Omega.{arith}
use Rattle.syntax.specs.Limits.{subject_limit, budget_limit, rule_area_need, work_per_step}
use Rattle.page_lines.specs.Laws.Holding.{holds-held}
use Rattle.readings.proofs.lines.tell_line.Goals as goal

pub list_held-r-requires : goal.list_held-r-requires
unfolding subject_limit budget_limit rule_area_need work_per_step
list_held-r-requires c = holds-held _ _ c.requires.holds (omega arith) (omega arith) (omega arith)

pub tell_unmatched-requires : goal.tell_unmatched-requires
tell_unmatched-requires c = record {
  holds = c.requires.holds;
  line_len_bound = omega arith;
}
