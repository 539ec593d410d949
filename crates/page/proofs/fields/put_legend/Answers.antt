-- There are at most 64 groups.
use native.Mathlib.Omega.{arith}
use Rattle.syntax.specs.Limits.{group_limit}
use Rattle.page.proofs.fields.put_legend.Goals as goal

pub put_named-p-requires : goal.put_named-p-requires
unfolding group_limit
put_named-p-requires c = omega (arith, c.min-passed-end.ensures)
