-- `tell_check` meets its contract: each case of the outcome has the numbers of its own law.
use mathlib.Core.Path.{ap, ◌∙◌}
use Rattle.std.specs.Prelude.{Ok}
use Rattle.answers.specs.Laws.{of-a-reading, of-no-reading, of-overdrawn, of-unchecked, check-place}
use Rattle.answers.proofs.calls.tell_check.Goals as goal

pub tell_refusal-requires : goal.tell_refusal-requires
tell_refusal-requires c = check-place _ _ c.in-Err.is c.requires

pub returns-in-Ok-Reading : goal.returns-in-Ok-Reading
returns-in-Ok-Reading c = c.tell.ensures ∙ of-a-reading _ _ (c.in-Ok-Reading.is ∙ ap Ok (rw c.in-Ok-Reading.is at c.in-Ok-Reading.field-0-is))

pub returns-in-Ok-Nothing : goal.returns-in-Ok-Nothing
returns-in-Ok-Nothing c = c.tell-in-Ok-Nothing.ensures ∙ of-no-reading _ _ (c.in-Ok-Nothing.is ∙ ap Ok (rw c.in-Ok-Nothing.is at c.in-Ok-Nothing.field-0-is))

pub returns-in-Ok-Exhausted : goal.returns-in-Ok-Exhausted
returns-in-Ok-Exhausted c = c.tell-in-Ok-Exhausted.ensures ∙ of-overdrawn _ _ _ (c.in-Ok-Exhausted.is ∙ ap Ok (rw c.in-Ok-Exhausted.is at c.in-Ok-Exhausted.field-0-is))

pub returns-in-Err : goal.returns-in-Err
returns-in-Err c = c.tell_refusal.ensures ∙ of-unchecked _ _ c.in-Err.is
