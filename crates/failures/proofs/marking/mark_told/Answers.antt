-- Each return is one case of `marked_by`.
use mathlib.Core.Path.{◌∙◌}
use Rattle.failures.specs.Accounts.{marked_by}
use Rattle.failures.specs.Laws.Marks.{marks-item, marks-nothing}
use Rattle.failures.proofs.marking.mark_told.Goals as goal

pub returns-in-Item-Some : goal.returns-in-Item-Some
returns-in-Item-Some c = rw c.in-Item-Some.is (c.mark.ensures ∙ marks-item _ _ _ _ (rw c.in-Item-Some.is at c.in-Item-Some.field-0-is))

pub returns-in-Item-None : goal.returns-in-Item-None
returns-in-Item-None c = rw c.in-Item-None.is (marks-nothing _ _ _ (rw c.in-Item-None.is at c.in-Item-None.field-0-is))

pub returns-in-Refuted : goal.returns-in-Refuted
unfolding marked_by
returns-in-Refuted c = rw c.in-Refuted.is c.mark-in-Refuted.ensures
