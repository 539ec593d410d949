-- `tell_listing` meets its contract: each case of the outcome has the numbers of its own law.
use mathlib.Core.Path.{ap, ◌∙◌}
use Rattle.std.specs.Prelude.{Ok}
use Rattle.answers.specs.Laws.{of-whole, of-full, of_cut, of-denied, list-place}
use Rattle.answers.proofs.calls.tell_listing.Goals as goal

pub tell_refusal-requires : goal.tell_refusal-requires
tell_refusal-requires c = list-place _ _ c.in-Err.is c.requires

pub returns-in-Ok-Complete : goal.returns-in-Ok-Complete
returns-in-Ok-Complete c = c.tell.ensures ∙ of-whole _ _ _ (c.in-Ok-Complete.is ∙ ap Ok (rw c.in-Ok-Complete.is at c.in-Ok-Complete.field-0-is))

pub returns-in-Ok-Full : goal.returns-in-Ok-Full
returns-in-Ok-Full c = c.tell-in-Ok-Full.ensures ∙ of-full _ _ _ (c.in-Ok-Full.is ∙ ap Ok (rw c.in-Ok-Full.is at c.in-Ok-Full.field-0-is))

pub returns-in-Ok-Exhausted : goal.returns-in-Ok-Exhausted
returns-in-Ok-Exhausted c = c.tell-in-Ok-Exhausted.ensures ∙ of_cut _ _ _ _ (c.in-Ok-Exhausted.is ∙ ap Ok (rw c.in-Ok-Exhausted.is at c.in-Ok-Exhausted.field-0-is))

pub returns-in-Err : goal.returns-in-Err
returns-in-Err c = c.tell_refusal.ensures ∙ of-denied _ _ c.in-Err.is
