-- `break_at_other` meets its contract: one law for each return.
use native.Mathlib.Omega.{arith}
use Rattle.breaks.proofs.Breaking.{break-next, break-feed, break-low, break-high}
use Rattle.breaks.proofs.break_at_other.Goals as goal

-- src/breaks.rt:51:9
pub returns-then-b-eq-NEXT_LINE : goal.returns-then-b-eq-NEXT_LINE
returns-then-b-eq-NEXT_LINE c = λ sub at l e. break-next c.args.b c.requires sub at l e c.if-b-eq-NEXT_LINE.true

-- src/breaks.rt:54:9
pub returns-then-b-lt-FEED : goal.returns-then-b-lt-FEED
returns-then-b-lt-FEED c = λ sub at l e. break-low c.args.b c.requires sub at l e c.if-b-lt-FEED.true

-- src/breaks.rt:57:9
pub returns-then-b-gt-RETURN : goal.returns-then-b-gt-RETURN
returns-then-b-gt-RETURN c = λ sub at l e. break-high c.args.b c.requires sub at l e c.if-b-gt-RETURN.true c.if-b-eq-NEXT_LINE.false

-- src/breaks.rt:44:1
pub returns : goal.returns
returns c = λ sub at l e. break-feed c.args.b c.requires sub at l e (omega (arith, c.if-b-lt-FEED.false)) (omega (arith, c.if-b-gt-RETURN.false))
