-- The loop's invariant: the columns so far, and then the names of the groups that are left, are all names.
use mathlib.Core.Path.{refl, sym, ◌∙◌}
use native.Mathlib.Omega.{arith}
use native.Mathlib.Numerals.{add-one}
use Rattle.syntax.specs.Limits.{group_limit, name_limit, name_entry, name_index_need}
use Rattle.fields_columns.specs.Columns.{names_from}
use Rattle.fields_columns.specs.Laws.Columns.{name-short, named_more, named-all}
use Rattle.fields_columns.proofs.columns.all_columns.Goals as goal

pub loop-i-init : goal.loop-i-init
unfolding names_from group_limit
loop-i-init c = (omega arith, refl, refl)

pub column-requires : goal.column-requires
unfolding group_limit name_index_need name_entry name_limit
column-requires c = (omega arith, c.requires.0)

pub add_named-count-requires : goal.add_named-count-requires
unfolding group_limit name_index_need name_entry name_limit
add_named-count-requires c = (rw c.column.ensures (name-short c.args.names.now c.loop-i.i), omega arith, omega arith)

pub loop-i-preserved : goal.loop-i-preserved
unfolding group_limit
loop-i-preserved c = let l = c.loop-i in
    (omega (arith, c.add_named-count.ensures.0), omega arith, rw (add-one l.i) (named_more c.args.names.now l.i group_limit _ (names_from l.columns 0 l.count) _ (omega arith) c.column.ensures c.add_named-count.ensures.1 ∙ l.invariant.2))

pub shape_of-columns : goal.shape_of-columns
shape_of-columns c = c.loop-i.invariant.1

pub returns : goal.returns
unfolding group_limit name_index_need name_entry name_limit
returns c = let l = c.loop-i in (omega arith, sym (named-all c.args.names.now l.i group_limit _ (omega arith)) ∙ l.invariant.2)
