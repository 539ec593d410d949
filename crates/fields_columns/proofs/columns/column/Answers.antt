-- The name stands behind its length, and is no longer than there is room for.
use Prim.Native.Nat.{◌*◌}
use mathlib.Core.Path.{refl}
use native.Mathlib.Omega.{arith}
use Rattle.syntax.specs.Limits.{group_limit, name_limit, name_entry, name_index_need}
use Rattle.fields_columns.specs.Laws.Columns.{name-at}
use Rattle.fields_columns.proofs.columns.column.Goals as goal

pub overflow_mul-from : goal.overflow_mul-from
unfolding group_limit name_index_need name_entry name_limit
overflow_mul-from c = omega arith

pub bounds-columns-from : goal.bounds-columns-from
unfolding group_limit name_index_need name_entry name_limit
bounds-columns-from c = omega arith

pub overflow_cast-columns : goal.overflow_cast-columns
unfolding group_limit name_index_need name_entry name_limit
overflow_cast-columns c = omega (arith, c.type_inv.columns (c.args.i * name_entry))

pub overflow_add-first : goal.overflow_add-first
unfolding group_limit name_index_need name_entry name_limit
overflow_add-first c = omega arith

pub overflow_add-end : goal.overflow_add-end
unfolding group_limit name_index_need name_entry name_limit
overflow_add-end c = omega (arith, c.min-size.ensures)

pub slice_bounds-result-end : goal.slice_bounds-result-end
unfolding group_limit name_index_need name_entry name_limit
slice_bounds-result-end c = omega (arith, c.min-size.ensures)

pub returns : goal.returns
unfolding name_entry
returns c = let a = c.args in name-at a.columns.now a.i _ refl _ _ c.min-size.ensures refl
