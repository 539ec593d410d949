-- By the test.
use borrow.Author.Tests.{lt-ltb, le-ltb}
use Rattle.reasons.specs.Marks.{sign_before}
use Rattle.reasons.proofs.marks.sign.Goals as goal

pub returns-then-at-end : goal.returns-then-at-end
unfolding sign_before
returns-then-at-end c = rw (lt-ltb _ _ c.if-at-end.true)

pub returns-else-at-end : goal.returns-else-at-end
unfolding sign_before
returns-else-at-end c = rw (le-ltb _ _ c.if-at-end.false)
