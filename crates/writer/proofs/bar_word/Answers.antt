-- By the test of the count.
use borrow.Author.Tests.{ne_eqb}
use Rattle.syntax.specs.Limits.{byte_limit, branch_limit}
use Rattle.syntax.specs.Checkable.{crowded_at}
use Rattle.syntax.specs.Compiled.{marked}
use Rattle.writer.proofs.bar_word.Goals as goal

pub returns-then-count-eq-BRANCH_LIMIT : goal.returns-then-count-eq-BRANCH_LIMIT
unfolding marked crowded_at branch_limit byte_limit
returns-then-count-eq-BRANCH_LIMIT c = rw c.if-count-eq-BRANCH_LIMIT.true

pub returns : goal.returns
unfolding marked crowded_at branch_limit byte_limit
returns c = rw (ne_eqb _ 256 c.if-count-eq-BRANCH_LIMIT.false)
