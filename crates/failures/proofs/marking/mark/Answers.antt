-- Each return is one case of what is marked.
use Rattle.failures.specs.Laws.Marks.{marks-elsewhere, marks-place, marks-beyond}
use Rattle.failures.proofs.marking.mark.Goals as goal

pub returns-then-there-at : goal.returns-then-there-at
returns-then-there-at c = marks-elsewhere _ _ _ _ c.if-there-at.true

pub returns-then-marks-place : goal.returns-then-marks-place
returns-then-marks-place c = marks-beyond _ _ _ _ c.if-there-at.false c.if-marks-place.true

pub returns : goal.returns
returns c = marks-place _ _ _ _ c.if-there-at.false
