-- The bytes of a group's name are found by its two numbers in the table.
use Prim.Native.Nat.{◌+◌, ◌*◌, ◌<◌}
use native.Mathlib.Omega.{arith}
use Rattle.syntax.specs.Limits.{group_limit, name_entry, name_index_need}
use Rattle.naming.specs.Laws.Entries.{name_in, name-fits}
use Rattle.naming.proofs.write_group.Goals as goal

pub overflow_mul-base : goal.overflow_mul-base
unfolding group_limit
overflow_mul-base c = omega arith

pub overflow_mul-from : goal.overflow_mul-from
unfolding group_limit
overflow_mul-from c = omega arith

pub offset_bounds-table-g : goal.offset_bounds-table-g
unfolding group_limit
offset_bounds-table-g c = omega arith

pub bounds-table-g : goal.bounds-table-g
bounds-table-g c = omega (arith, c.requires.0.room)

pub overflow_cast-from : goal.overflow_cast-from
overflow_cast-from c = omega (arith, c.type_inv.table (2 * c.args.g))

pub overflow_mul-len : goal.overflow_mul-len
unfolding group_limit
overflow_mul-len c = omega arith

pub overflow_add-len : goal.overflow_add-len
unfolding group_limit
overflow_add-len c = omega arith

pub offset_bounds-table-g-2 : goal.offset_bounds-table-g-2
unfolding group_limit
offset_bounds-table-g-2 c = omega arith

pub bounds-table-g-2 : goal.bounds-table-g-2
bounds-table-g-2 c = omega (arith, c.requires.0.room)

pub overflow_cast-len : goal.overflow_cast-len
overflow_cast-len c = omega (arith, c.type_inv.table (2 * c.args.g + 1))

pub write_entry-requires : goal.write_entry-requires
unfolding name_index_need
write_entry-requires c = let a = c.args in
    let p = c.requires in
    let l : a.g < a.groups = p.2 in
    (name-fits a.rule.now a.table.now a.groups a.g p.0 p.1 l, p.0.within a.g l, omega arith)

pub returns : goal.returns
unfolding name_entry
returns c = let a = c.args in
    rw (name_in a.rule.now a.table.now a.groups a.g c.requires.2) c.write_entry.ensures
