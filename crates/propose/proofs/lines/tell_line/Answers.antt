-- The rule is held, and a line that does not fill its buffer is short enough to be matched.
use native.Mathlib.Omega.{arith}
use Rattle.syntax.specs.Limits.{subject_limit, budget_limit, rule_area_need, work_per_step, row_length, spans_length, group_limit}
use Rattle.propose.proofs.Holding.{holds-held}
use Rattle.propose.proofs.lines.tell_line.Goals as goal

pub match_held-requires : goal.match_held-requires
unfolding subject_limit budget_limit rule_area_need work_per_step row_length spans_length group_limit
match_held-requires c = (holds-held _ _ c.requires.0 (omega arith) (omega arith) (omega arith), omega arith)

pub propose_held-proposed-requires : goal.propose_held-proposed-requires
unfolding subject_limit budget_limit rule_area_need work_per_step row_length spans_length group_limit
propose_held-proposed-requires c = (holds-held _ _ c.requires.0 (omega arith) (omega arith) (omega arith), omega arith)
