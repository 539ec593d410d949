-- By cases on the tests, in the order of the definition.
use native.Mathlib.Omega.{arith}
use borrow.Author.Tests.{eq-eqb, ne_eqb, le-leb, lt-leb}
use Rattle.syntax.specs.Limits.{row_length}
use Rattle.lookup.specs.Rows.{is_row}
use Rattle.lookup.proofs.rows.is_row.Goals as goal

pub returns-then-row-ne-ROW_LENGTH : goal.returns-then-row-ne-ROW_LENGTH
unfolding is_row row_length
returns-then-row-ne-ROW_LENGTH c = rw (ne_eqb _ row_length c.if-row-ne-ROW_LENGTH.true)

pub returns-then-end-start : goal.returns-then-end-start
unfolding is_row row_length
returns-then-end-start c = rw (eq-eqb _ row_length c.if-row-ne-ROW_LENGTH.false, lt-leb _ _ c.if-end-start.true)

pub overflow_cast-end : goal.overflow_cast-end
overflow_cast-end c = omega (arith, c.type_inv.row 1)

pub returns-then-line-end : goal.returns-then-line-end
unfolding is_row row_length
returns-then-line-end c = rw (eq-eqb _ row_length c.if-row-ne-ROW_LENGTH.false, le-leb _ _ c.if-end-start.false, lt-leb _ _ c.if-line-end.true)

pub spans_hold-requires : goal.spans_hold-requires
unfolding row_length
spans_hold-requires c = c.if-row-ne-ROW_LENGTH.false

pub returns : goal.returns
unfolding is_row row_length
returns c = rw (eq-eqb _ row_length c.if-row-ne-ROW_LENGTH.false, le-leb _ _ c.if-end-start.false, le-leb _ _ c.if-line-end.false) c.spans_hold.ensures
