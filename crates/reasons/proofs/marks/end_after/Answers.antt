-- By the mark.
use borrow.Author.Tests.{eq-eqb, ne_eqb}
use Rattle.reasons.specs.Marks.{is_mark, end_after}
use Rattle.reasons.proofs.marks.end_after.Goals as goal

pub returns-then-mark-eq-MARK : goal.returns-then-mark-eq-MARK
unfolding end_after is_mark
returns-then-mark-eq-MARK c = rw (eq-eqb _ 1 c.if-mark-eq-MARK.true) c.item_end.ensures

pub returns : goal.returns
unfolding end_after is_mark
returns c = rw (ne_eqb _ 1 c.if-mark-eq-MARK.false)
