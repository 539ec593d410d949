-- `at_line_start` meets its contract, by the tests in their order.
use Rattle.nodes.proofs.Tests.{start_first, start-in, start-out}
use Rattle.nodes.proofs.assertions.at_line_start.Goals as goal

pub returns-then-at-eq0 : goal.returns-then-at-eq0
returns-then-at-eq0 c = start_first c.args.sub.now _ c.if-at-eq0.true

pub returns-then-at-sub : goal.returns-then-at-sub
returns-then-at-sub c = rw c.byte_before.ensures (start-in c.args.sub.now _ c.if-at-eq0.false c.if-at-sub.true)

pub returns : goal.returns
returns c = start-out c.args.sub.now _ c.if-at-eq0.false c.if-at-sub.false
