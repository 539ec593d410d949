-- `break_at_return` meets its contract: one law for each return.
use Rattle.breaks.proofs.Breaking.{break-both, break-other, break-last}
use Rattle.breaks.proofs.break_at_return.Goals as goal

-- src/breaks.rt:36:13
pub returns-then-sub-next-eq-FEED : goal.returns-then-sub-next-eq-FEED
returns-then-sub-next-eq-FEED c = break-both c.args.sub.now c.args.at c.requires.0 c.requires.1 c.if-next-sub.true c.if-sub-next-eq-FEED.true

-- src/breaks.rt:41:9
pub returns-then-next-sub : goal.returns-then-next-sub
returns-then-next-sub c = break-other c.args.sub.now c.args.at c.requires.0 c.requires.1 c.if-next-sub.true c.if-sub-next-eq-FEED.false

-- src/breaks.rt:25:1
pub returns : goal.returns
returns c = break-last c.args.sub.now c.args.at c.requires.0 c.requires.1 c.if-next-sub.false
