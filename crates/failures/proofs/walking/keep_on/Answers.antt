-- At once, or by its note.
use Rattle.greatest.specs.Leading.{kept_by}
use Rattle.failures.proofs.walking.keep_on.Goals as goal

pub returns-in-Item : goal.returns-in-Item
unfolding kept_by
returns-in-Item c = λ start. rw c.in-Item.is (c.lead.ensures start)

pub returns-in-Refuted : goal.returns-in-Refuted
unfolding kept_by
returns-in-Refuted c = λ start. rw c.in-Refuted.is (c.settle.ensures start)
