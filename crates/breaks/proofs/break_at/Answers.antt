-- `break_at` meets its contract: one law for each return.
use mathlib.Core.Path.{refl}
use Rattle.breaks.proofs.Breaking.{break-past}
use Rattle.breaks.proofs.break_at.Goals as goal

-- src/breaks.rt:72:9
pub returns-then-at-sub : goal.returns-then-at-sub
returns-then-at-sub c = c.break_at_other.ensures c.args.sub.now c.args.at c.if-at-sub.true refl

-- src/breaks.rt:63:1
pub returns : goal.returns
returns c = break-past c.args.sub.now c.args.at c.if-at-sub.false
