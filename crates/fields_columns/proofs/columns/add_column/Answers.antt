-- The length and the name are written one behind the other, where the next entry begins.
use mathlib.Core.Path.{refl}
use native.Mathlib.Omega.{arith}
use Rattle.syntax.specs.Limits.{group_limit, name_limit, name_entry, name_index_need}
use Rattle.text.specs.Laws.Writing.{wrote_both}
use Rattle.fields_columns.specs.Laws.Columns.{names-added}
use borrow.Author.Rules.{rules}
use Rattle.fields_columns.proofs.columns.add_column.Goals as goal

pub overflow_mul-from : goal.overflow_mul-from
unfolding group_limit name_index_need name_entry name_limit
overflow_mul-from c = omega arith

pub overflow_cast-name : goal.overflow_cast-name
unfolding name_limit
overflow_cast-name c = search rules

pub append_byte-first-requires : goal.append_byte-first-requires
unfolding group_limit name_index_need name_entry name_limit
append_byte-first-requires c = omega arith

pub append-requires : goal.append-requires
unfolding group_limit name_index_need name_entry name_limit
append-requires c = omega (arith, c.append_byte-first.ensures.ends)

pub returns : goal.returns
unfolding group_limit name_index_need name_entry name_limit
returns c = let a = c.args in (refl, names-added a.columns.now a.count a.name.now _ c.requires.0 (omega arith) (wrote_both (omega (arith, c.append_byte-first.ensures.ends)) c.append_byte-first.ensures c.append.ensures).holds)
