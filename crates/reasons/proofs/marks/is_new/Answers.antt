-- By the mark, and then by those before.
use Rattle.reasons.specs.Marks.{Decides}
use Rattle.reasons.specs.Laws.Decides.{decides_not}
use Rattle.reasons.specs.Laws.Marks.{is-marked, not-marked}
use Rattle.reasons.proofs.marks.is_new.Goals as goal

pub returns-then-marks-at-ne-MARK : goal.returns-then-marks-at-ne-MARK
unfolding Decides
returns-then-marks-at-ne-MARK c = λ x. not-marked _ c.if-marks-at-ne-MARK.true x.marked

pub returns : goal.returns
returns c = decides_not _ c.is_said.ensures (λ said x. x.unsaid said) (λ unsaid. record { marked = is-marked _ c.if-marks-at-ne-MARK.false; unsaid = unsaid })
