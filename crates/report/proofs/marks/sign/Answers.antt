-- By cases on the two tests.
use borrow.Author.Tests.{lt-leb, le-leb, lt-ltb, le-ltb}
use Rattle.report.specs.Marks.{mark_under}
use Rattle.report.proofs.marks.sign.Goals as goal

pub returns-then-column-from : goal.returns-then-column-from
unfolding mark_under
returns-then-column-from c = rw (lt-leb _ _ c.if-column-from.true)

pub returns-then-column-to : goal.returns-then-column-to
unfolding mark_under
returns-then-column-to c = rw (le-leb _ _ c.if-column-from.false, lt-ltb _ _ c.if-column-to.true)

pub returns-else-column-to : goal.returns-else-column-to
unfolding mark_under
returns-else-column-to c = rw (le-leb _ _ c.if-column-from.false, le-ltb _ _ c.if-column-to.false)
