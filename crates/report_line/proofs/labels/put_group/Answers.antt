-- There are at most 64 groups.
use native.Mathlib.Omega.{arith}
use Rattle.syntax.specs.Limits.{group_limit}
use Rattle.report_line.proofs.labels.put_group.Goals as goal

pub overflow_add-passed : goal.overflow_add-passed
unfolding group_limit
overflow_add-passed c = omega arith
