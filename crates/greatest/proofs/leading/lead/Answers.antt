-- Nothing failed, and nothing changes; or one failure more is kept.
use Rattle.greatest.specs.Leading.{better_if}
use Rattle.greatest.proofs.leading.lead.Goals as goal

pub returns-in-Some : goal.returns-in-Some
unfolding better_if
returns-in-Some c = λ start. rw c.in-Some.is (c.further.ensures start)

pub returns-in-None : goal.returns-in-None
unfolding better_if
returns-in-None c = λ start. rw c.in-None.is
