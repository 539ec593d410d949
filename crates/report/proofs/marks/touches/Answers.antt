-- By cases on the tests.
use borrow.Author.Tests.{lt-leb, le-leb, lt-ltb, le-ltb, eq-eqb, ne_eqb}
use Rattle.report.specs.Marks.{in_window}
use Rattle.report.proofs.marks.touches.Goals as goal

pub returns-then-from-column : goal.returns-then-from-column
unfolding in_window
returns-then-from-column c = rw (eq-eqb _ _ c.if-from-to.true, lt-leb _ _ c.if-from-column.true)

pub returns-then-from-to : goal.returns-then-from-to
unfolding in_window
returns-then-from-to c = rw (eq-eqb _ _ c.if-from-to.true, le-leb _ _ c.if-from-column.false)

pub returns-then-to-column : goal.returns-then-to-column
unfolding in_window
returns-then-to-column c = rw (ne_eqb _ _ c.if-from-to.false, le-ltb _ _ c.if-to-column.true)

pub returns : goal.returns
unfolding in_window
returns c = rw (ne_eqb _ _ c.if-from-to.false, lt-ltb _ _ c.if-to-column.false)
