-- By the mark, and then by the texts.
use Rattle.reasons.specs.Marks.{Decides}
use Rattle.reasons.specs.Laws.Decides.{decides-as}
use Rattle.reasons.specs.Laws.Marks.{is-marked, not-marked}
use Rattle.reasons.proofs.marks.says.Goals as goal

pub returns-then-marks-at-ne-MARK : goal.returns-then-marks-at-ne-MARK
unfolding Decides
returns-then-marks-at-ne-MARK c = λ x. not-marked _ c.if-marks-at-ne-MARK.true x.marked

pub returns : goal.returns
returns c = decides-as _ c.is_alike.ensures (λ e. record { marked = is-marked _ c.if-marks-at-ne-MARK.false; alike = e }) (λ x. x.alike)
