-- `range_of` meets its contract: an end that is no byte, or two bytes, their order and whether they are alike.
use mathlib.Core.Path.{◌∙◌, sym}
use Rattle.classes.proofs.MemberCases.{range-low-set, range-high-set, range-over, range-mixed, range-alike, range-loose}
use Rattle.classes.proofs.members.range_of.Goals as goal

pub returns-in_default : goal.returns-in_default
returns-in_default c = rw c.at.ensures (range-low-set _ _ c.args.low c.args.high.value _ c.in_default.not-Single)

pub returns-in_default-value : goal.returns-in_default-value
returns-in_default-value c = rw c.at-in_default-value.ensures (range-high-set _ _ c.args.low c.args.high.value _ _ c.in-Single.is c.in_default-value.not-Single)

pub returns-then-b-a : goal.returns-then-b-a
returns-then-b-a c = rw c.at-then-b-a.ensures (range-over _ _ c.args.low c.args.high.value _ _ c.in-Single.is _ c.in-Single-value.is c.if-b-a.true)

pub returns-then-not-ends_alike : goal.returns-then-not-ends_alike
returns-then-not-ends_alike c = rw c.at-then-not-ends_alike.ensures (range-mixed _ _ c.args.low c.args.high.value _ _ c.in-Single.is _ c.in-Single-value.is c.if-b-a.false c.if-strict.true (sym c.if-not-ends_alike.true ∙ c.ends_alike.ensures))

pub returns-else-not-ends_alike : goal.returns-else-not-ends_alike
returns-else-not-ends_alike c = range-alike _ _ c.args.low c.args.high.value _ _ c.in-Single.is _ c.in-Single-value.is c.if-b-a.false c.if-strict.true (sym c.if-not-ends_alike.false ∙ c.ends_alike.ensures)

pub returns-else-strict : goal.returns-else-strict
returns-else-strict c = range-loose _ _ c.args.low c.args.high.value _ _ c.in-Single.is _ c.in-Single-value.is c.if-b-a.false c.if-strict.false
