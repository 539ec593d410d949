-- By cases on the tests, in the order of the definition. A group that is found is one that a row has, so that its two numbers are there.
use mathlib.Core.Path.{sym, ap, ◌∙◌}
use Prim.Native.Nat.{ℕ}
use native.Mathlib.Omega.{arith}
use lib.ListN.{take, length-take}
use lib.Seq.{length-take-le}
use Rattle.syntax.specs.Limits.{group_limit, row_length}
use Rattle.lookup.specs.Lookup.{of_group}
use Rattle.lookup.specs.Laws.Names.{named-within, is_none, is_some}
use Rattle.lookup.specs.Laws.Lookup.{not-matched, short_row, no_row, by-group, unknown, span-found}
use Rattle.lookup.proofs.fields.find.Goals as goal

pub returns-then-kind-ne0 : goal.returns-then-kind-ne0
returns-then-kind-ne0 c = let a = c.args in
    sym (not-matched a.name.now a.names.now a.line.now a.kind a.row.now c.if-kind-ne0.true)

pub returns-then-row-lt-ROW_LENGTH : goal.returns-then-row-lt-ROW_LENGTH
unfolding row_length
returns-then-row-lt-ROW_LENGTH c = let a = c.args in
    sym (no_row a.name.now a.names.now a.line.now a.kind a.row.now c.if-kind-ne0.false (short_row a.line.now a.row.now c.if-row-lt-ROW_LENGTH.true))

pub slice_bounds-numbers-end : goal.slice_bounds-numbers-end
slice_bounds-numbers-end c = simp length-take (omega arith)

pub returns-then-not-is_row : goal.returns-then-not-is_row
unfolding row_length
returns-then-not-is_row c = let a = c.args in
    sym (no_row a.name.now a.names.now a.line.now a.kind a.row.now c.if-kind-ne0.false (sym c.is_row.ensures ∙ c.if-not-is_row.true))

pub returns-in-None : goal.returns-in-None
unfolding row_length
returns-in-None c = let a = c.args in
    let row = take row_length a.row.now in
    sym (by-group a.name.now a.names.now a.line.now a.kind a.row.now c.if-kind-ne0.false (sym c.is_row.ensures ∙ c.if-not-is_row.false) ∙ unknown _ row (is_none _ (sym c.in-None.is ∙ c.group_named.ensures)))

pub overflow_mul-group : goal.overflow_mul-group
unfolding group_limit
overflow_mul-group c = omega (arith, named-within c.args.name.now c.args.names.now, (is_some _ _ (sym c.in-Some.is ∙ c.group_named.ensures)).0)

pub offset_bounds-numbers-group : goal.offset_bounds-numbers-group
unfolding group_limit
offset_bounds-numbers-group c = omega (arith, named-within c.args.name.now c.args.names.now, (is_some _ _ (sym c.in-Some.is ∙ c.group_named.ensures)).0)

pub bounds-numbers-group : goal.bounds-numbers-group
unfolding group_limit row_length
bounds-numbers-group c = let a = c.args in
    omega (arith, named-within a.name.now a.names.now, (is_some _ _ (sym c.in-Some.is ∙ c.group_named.ensures)).0, length-take-le row_length a.row.now c.if-row-lt-ROW_LENGTH.false)

pub overflow_mul-group-in-Some : goal.overflow_mul-group-in-Some
unfolding group_limit
overflow_mul-group-in-Some c = omega (arith, named-within c.args.name.now c.args.names.now, (is_some _ _ (sym c.in-Some.is ∙ c.group_named.ensures)).0)

pub overflow_add-group : goal.overflow_add-group
unfolding group_limit
overflow_add-group c = omega (arith, named-within c.args.name.now c.args.names.now, (is_some _ _ (sym c.in-Some.is ∙ c.group_named.ensures)).0)

pub offset_bounds-numbers-group-in-Some : goal.offset_bounds-numbers-group-in-Some
unfolding group_limit
offset_bounds-numbers-group-in-Some c = omega (arith, named-within c.args.name.now c.args.names.now, (is_some _ _ (sym c.in-Some.is ∙ c.group_named.ensures)).0)

pub bounds-numbers-group-in-Some : goal.bounds-numbers-group-in-Some
unfolding group_limit row_length
bounds-numbers-group-in-Some c = let a = c.args in
    omega (arith, named-within a.name.now a.names.now, (is_some _ _ (sym c.in-Some.is ∙ c.group_named.ensures)).0, length-take-le row_length a.row.now c.if-row-lt-ROW_LENGTH.false)

pub returns-in-Some : goal.returns-in-Some
unfolding row_length
returns-in-Some c = let a = c.args in
    let row = take row_length a.row.now in
    let group = (is_some _ _ (sym c.in-Some.is ∙ c.group_named.ensures)).0 in
    c.of_span.ensures ∙ sym (by-group a.name.now a.names.now a.line.now a.kind a.row.now c.if-kind-ne0.false (sym c.is_row.ensures ∙ c.if-not-is_row.false) ∙ ap (λ (g : ℕ). of_group g row) (sym group) ∙ span-found _ row (is_some _ _ (sym c.in-Some.is ∙ c.group_named.ensures)).1)
