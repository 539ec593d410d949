-- The loop's invariant: the entries of the first g groups stand at the front, and all else is as it was. Behind those of all groups of the rule come zeros.
use mathlib.Core.Path.{◌≡◌, refl, ◌∙◌}
use Prim.Native.Nat.{◌≤◌, ◌-◌, ◌*◌}
use native.Mathlib.Omega.{arith}
use native.Mathlib.Numerals.{add-one}
use lib.ListN.{length, take, drop, length-take, length-drop}
use borrow.Rule.Slice.PartMut.{same_len_mid, Post-is}
use Rattle.syntax.specs.Limits.{group_limit, name_entry, name_index_need}
use Rattle.semantics.specs.NameIndex.{entries}
use Rattle.semantics.specs.Calls.{over}
use Rattle.name_table.specs.Table.{names_in, length-names}
use Rattle.naming.specs.Laws.Entries.{entry-behind, index-padded}
use Rattle.naming.proofs.fill.Goals as goal

pub loop-g-init : goal.loop-g-init
unfolding over entries
loop-g-init c = (omega arith, refl, refl)

pub write_group-requires : goal.write_group-requires
write_group-requires c = let p = c.requires in (p.0, p.1, omega arith, p.2, omega arith)

pub loop-g-preserved : goal.loop-g-preserved
loop-g-preserved c = let a = c.args in
    let l = c.loop-g in
    let names = names_in a.rule.now a.table.now a.groups in (
      omega arith,
      omega (arith, l.invariant.1),
      rw (add-one l.g) (entry-behind names a.names.now l.g l.names _ l.invariant.2 c.write_group.ensures),
    )

pub overflow_mul-end : goal.overflow_mul-end
unfolding group_limit
overflow_mul-end c = omega (arith, c.requires.2)

pub slice_bounds-fill-count : goal.slice_bounds-fill-count
unfolding group_limit
slice_bounds-fill-count c = omega (arith, c.requires.2)

pub slice_bounds-fill-start : goal.slice_bounds-fill-start
unfolding group_limit
slice_bounds-fill-start c = omega (arith, c.requires.2)

pub slice_bounds-fill-end : goal.slice_bounds-fill-end
unfolding name_index_need
slice_bounds-fill-end c = omega (arith, c.loop-g.invariant.1, c.requires.3)

pub shape_of-names : goal.shape_of-names
unfolding name_index_need
shape_of-names c = let base = c.args.groups * name_entry in same_len_mid base (name_index_need - base) c.loop-g.names c.fill.new.self c.fill.auto.self ∙ c.loop-g.invariant.1

pub returns : goal.returns
unfolding name_index_need
returns c = let a = c.args in
    let l = c.loop-g in
    let names = names_in a.rule.now a.table.now a.groups in
    let base = a.groups * name_entry in
    let few : base ≤ name_index_need = omega (arith, c.requires.2) in
    let all : l.g ≡ a.groups = omega arith in
    let long : length (take (name_index_need - base) (drop base l.names)) ≡ name_index_need - base = omega (arith, length-take (name_index_need - base) (drop base l.names), length-drop base l.names, l.invariant.1, c.requires.3) in
    let zeros = rw long at (c.fill.ensures.after (λ y h. h)) in
    index-padded names a.names.now a.groups l.names _ (length-names a.rule.now a.table.now a.groups) c.requires.2 (rw all at l.invariant.2)
    (rw (zeros, Post-is base name_index_need l.names few))
