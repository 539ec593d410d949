-- `has_both` meets its contract: one test behind the other.
use Rattle.classes.proofs.ranges.has_both.Goals as goal

pub returns-then-in_named : goal.returns-then-in_named
returns-then-in_named c = rw (← c.in_named.ensures, c.if-in_named.true) c.in_named-then-in_named.ensures

pub returns : goal.returns
returns c = rw (← c.in_named.ensures, c.if-in_named.false)
