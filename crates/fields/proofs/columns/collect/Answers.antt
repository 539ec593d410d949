-- There are no more columns so far than there can be.
use native.Mathlib.Omega.{arith}
use Rattle.syntax.specs.Limits.{group_limit, name_limit, name_entry, name_index_need}
use Rattle.fields.proofs.columns.collect.Goals as goal

pub all_columns-requires : goal.all_columns-requires
unfolding group_limit name_index_need name_entry name_limit
all_columns-requires c = (omega arith, omega arith)
