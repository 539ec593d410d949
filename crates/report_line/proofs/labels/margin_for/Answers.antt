-- There are at most 64 groups.
use native.Mathlib.Omega.{arith}
use Rattle.syntax.specs.Limits.{group_limit}
use Rattle.report_line.proofs.labels.margin_for.Goals as goal

pub name_of-requires : goal.name_of-requires
unfolding group_limit
name_of-requires c = omega arith
