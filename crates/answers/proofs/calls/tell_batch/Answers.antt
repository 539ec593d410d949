-- `tell_batch` meets its contract: each case of the outcome has the numbers of its own law.
use mathlib.Core.Path.{◌∙◌}
use Rattle.answers.specs.Laws.{of-all, of-unmade, batch-place}
use Rattle.answers.proofs.calls.tell_batch.Goals as goal

pub tell_refusal-requires : goal.tell_refusal-requires
tell_refusal-requires c = batch-place _ _ c.in-Err.is c.requires

pub returns-in-Ok : goal.returns-in-Ok
returns-in-Ok c = c.tell.ensures ∙ of-all _ _ c.in-Ok.is

pub returns-in-Err : goal.returns-in-Err
returns-in-Err c = c.tell_refusal.ensures ∙ of-unmade _ _ c.in-Err.is
