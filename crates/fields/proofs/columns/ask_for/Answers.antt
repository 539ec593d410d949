-- A name that the rule has is put behind the others, if there is room.
use native.Mathlib.Omega.{arith}
use Rattle.syntax.specs.Limits.{group_limit, name_limit, name_entry, name_index_need}
use lib.ListN.{length-take}
use Rattle.fields.proofs.columns.ask_for.Goals as goal

pub add_column-requires : goal.add_column-requires
unfolding group_limit name_index_need name_entry name_limit
add_column-requires c = (simp length-take (omega arith), omega arith, omega arith)

pub returns : goal.returns
unfolding group_limit
returns c = omega (arith, c.requires, c.add_column.ensures.0)
