-- `at_line_end` meets its contract, by the tests in their order.
use Rattle.nodes.proofs.Tests.{line-end, line-in}
use Rattle.nodes.proofs.assertions.at_line_end.Goals as goal

pub returns-then-at-sub : goal.returns-then-at-sub
returns-then-at-sub c = line-end c.args.sub.now _ c.if-at-sub.true

pub returns : goal.returns
returns c = rw c.byte_at.ensures (line-in c.args.sub.now _ c.if-at-sub.false)
