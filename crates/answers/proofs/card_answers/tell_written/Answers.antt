-- `tell_written` meets its contract: each case of the outcome has the numbers of its own law.
use mathlib.Core.Path.{◌∙◌}
use Rattle.answers.specs.CardLaws.{written-place, of-wrote, of-unwritten}
use Rattle.answers.proofs.card_answers.tell_written.Goals as goal

pub tell_refusal-requires : goal.tell_refusal-requires
tell_refusal-requires c = written-place _ _ c.in-Err.is c.requires

pub returns-in-Ok : goal.returns-in-Ok
returns-in-Ok c = c.tell.ensures ∙ of-wrote _ _ c.in-Ok.is

pub returns-in-Err : goal.returns-in-Err
returns-in-Err c = c.tell_refusal.ensures ∙ of-unwritten _ _ c.in-Err.is
