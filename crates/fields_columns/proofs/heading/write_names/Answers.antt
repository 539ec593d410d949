-- The loop's invariant: the names of the first i columns are written.
use mathlib.Core.Path.{◌≡◌, refl}
use native.Mathlib.Omega.{arith}
use Rattle.fields_text.specs.Table.{tab}
use Rattle.fields_columns.specs.Promises.{column_room}
use Rattle.fields_columns.specs.Laws.Columns.{name-short}
use Rattle.fields_columns.specs.Laws.Heading.{named-first, named-next}
use Rattle.fields_columns.proofs.heading.write_names.Goals as goal

pub loop-i-init : goal.loop-i-init
loop-i-init c = let a = c.args in (refl, named-first a.columns.now a.count a.out.now a.at)

pub column-requires : goal.column-requires
column-requires c = (omega (arith, c.requires.columned.few), c.requires.columned.fits)

pub append_byte-tab-requires : goal.append_byte-tab-requires
unfolding column_room
append_byte-tab-requires c = omega (arith, c.loop-i.invariant.1.near)

pub write_escaped-end-requires : goal.write_escaped-end-requires
unfolding column_room
write_escaped-end-requires c = let short = rw (← c.column.ensures) at (name-short c.args.columns.now c.loop-i.i) in omega (arith, c.loop-i.invariant.1.near, c.append_byte-tab.ensures.ends)

pub loop-i-preserved : goal.loop-i-preserved
unfolding tab column_room
loop-i-preserved c = let a = c.args in
    let l = c.loop-i in
    (omega arith, named-next a.columns.now a.count a.out.now a.at l.i _ (omega arith) c.column.ensures (omega (arith, l.invariant.1.near)) l.invariant.0 (omega arith) l.invariant.1 c.append_byte-tab.ensures c.write_escaped-end.ensures)

pub shape_of-out : goal.shape_of-out
shape_of-out c = c.loop-i.invariant.0

pub returns : goal.returns
returns c = let a = c.args in let e : c.loop-i.i ≡ a.count = omega arith in rw e at c.loop-i.invariant.1
