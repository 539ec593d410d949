-- By cases on the tests, in the order of the definition.
use mathlib.Core.Path.{sym}
use Rattle.card_records.specs.Laws.Walking.{off-goes, first_goes, other_goes}
use Rattle.card_records.proofs.scanning.goes_on.Goals as goal

pub returns-then-not-ordered : goal.returns-then-not-ordered
returns-then-not-ordered c = sym (off-goes _ _ _ (c.if-not-ordered.true))

pub returns-then-many-eq0 : goal.returns-then-many-eq0
returns-then-many-eq0 c = sym (first_goes _ _ _ (c.if-not-ordered.false) c.if-many-eq0.true)

pub returns : goal.returns
returns c = sym (other_goes _ _ _ (c.if-not-ordered.false) c.if-many-eq0.false)
