-- `at_last_line_end` meets its contract, by the tests in their order.
use Rattle.nodes.proofs.Tests.{last_end, last-near, last-far}
use Rattle.nodes.proofs.assertions.at_last_line_end.Goals as goal

pub returns-then-at-sub : goal.returns-then-at-sub
returns-then-at-sub c = last_end c.args.sub.now _ c.if-at-sub.true

pub returns-then-at-sub-2 : goal.returns-then-at-sub-2
returns-then-at-sub-2 c = rw c.byte_at.ensures (last-near c.args.sub.now _ c.if-at-sub.false c.if-at-sub-2.true)

pub returns : goal.returns
returns c = last-far c.args.sub.now _ c.if-at-sub.false c.if-at-sub-2.false
