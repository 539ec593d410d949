-- By cases on what `find` found. A part of the line lies within it, since the row was tested against the line.
use mathlib.Core.Path.{refl, sym, ◌∙◌}
use lib.Seq.{take-length}
use Rattle.lookup.specs.Laws.Lookup.{taken-within, part_slice, from_start, lent-taken, lent-standing, lent_nothing}
use Rattle.lookup.proofs.fields.field.Goals as goal

pub slice_bounds-result-count : goal.slice_bounds-result-count
slice_bounds-result-count c = let a = c.args in
    (taken-within a.name.now a.names.now a.line.now a.kind a.row.now _ _ (sym c.find.ensures ∙ c.in-Taken.is)).0

pub slice_bounds-result-start : goal.slice_bounds-result-start
slice_bounds-result-start c = let a = c.args in
    (taken-within a.name.now a.names.now a.line.now a.kind a.row.now _ _ (sym c.find.ensures ∙ c.in-Taken.is)).0

pub slice_bounds-result-end : goal.slice_bounds-result-end
slice_bounds-result-end c = let a = c.args in
    (taken-within a.name.now a.names.now a.line.now a.kind a.row.now _ _ (sym c.find.ensures ∙ c.in-Taken.is)).1

pub returns-in-Taken : goal.returns-in-Taken
returns-in-Taken c = let a = c.args in
    let e = sym c.find.ensures ∙ c.in-Taken.is in
    let w = taken-within a.name.now a.names.now a.line.now a.kind a.row.now _ _ e in
    lent-taken a.line a.standing _ _ _ _ e (record { place = refl; bytes = part_slice _ _ a.line.now w.0 })

pub returns-in-Standing : goal.returns-in-Standing
returns-in-Standing c = let a = c.args in
    let e = sym c.find.ensures ∙ c.in-Standing.is in
    lent-standing a.line a.standing _ a.standing e (record { place = from_start a.standing; bytes = sym (take-length a.standing.now) })

pub returns-in-Nothing : goal.returns-in-Nothing
returns-in-Nothing c = let a = c.args in
    let e = sym c.find.ensures ∙ c.in-Nothing.is in
    lent_nothing a.line a.standing _ _ e (record { place = from_start a.standing; bytes = refl })
