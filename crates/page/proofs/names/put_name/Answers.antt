-- The group's entry is within the index.
use native.Mathlib.Omega.{arith}
use Rattle.syntax.specs.Limits.{group_limit, name_limit, name_entry, name_index_need}
use borrow.Author.Rules.{rules}
use Rattle.page.proofs.names.put_name.Goals as goal

pub column-name-requires : goal.column-name-requires
unfolding group_limit name_index_need name_entry name_limit
column-name-requires c = (omega arith, omega arith)

pub overflow_add-passed : goal.overflow_add-passed
unfolding group_limit
overflow_add-passed c = search rules
