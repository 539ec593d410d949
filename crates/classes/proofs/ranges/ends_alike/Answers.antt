-- `ends_alike` meets its contract: one set after the other.
use Rattle.syntax.specs.Classes.{alike}
use Rattle.classes.proofs.ranges.ends_alike.Goals as goal

pub returns-then-has_both : goal.returns-then-has_both
unfolding alike
returns-then-has_both c = rw (← c.has_both.ensures, c.if-has_both.true)

pub returns-then-has_both-2 : goal.returns-then-has_both-2
unfolding alike
returns-then-has_both-2 c = rw (← c.has_both.ensures, c.if-has_both.false, ← c.has_both-2.ensures, c.if-has_both-2.true)

pub returns : goal.returns
unfolding alike
returns c = rw (← c.has_both.ensures, c.if-has_both.false, ← c.has_both-2.ensures, c.if-has_both-2.false) c.has_both-3.ensures
