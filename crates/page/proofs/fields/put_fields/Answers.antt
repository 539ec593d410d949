-- There are at most 64 groups.
use native.Mathlib.Omega.{arith}
use Rattle.syntax.specs.Limits.{group_limit}
use Rattle.page.proofs.fields.put_fields.Goals as goal

pub put_field-p-requires : goal.put_field-p-requires
unfolding group_limit
put_field-p-requires c = omega arith
