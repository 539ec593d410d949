-- There are as many columns as a rule can have names.
use native.Mathlib.Omega.{arith}
use Rattle.syntax.specs.Limits.{group_limit, name_limit, name_entry, name_index_need}
use Rattle.page.proofs.names.put_listed.Goals as goal

pub column-requires : goal.column-requires
unfolding group_limit name_index_need name_entry name_limit
column-requires c = (omega arith, omega arith)
