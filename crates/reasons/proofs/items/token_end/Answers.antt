-- By whether an item was read at the place.
use mathlib.Core.Path.{◌∙◌}
use mathlib.Core.List.{[]}
use native.Mathlib.Numerals.{add-one}
use Rattle.reasons.specs.Laws.Items.{end-read, end-refused}
use Rattle.reasons.proofs.items.token_end.Goals as goal

pub returns-in-Ok : goal.returns-in-Ok
returns-in-Ok c = let h = rw c.in-Ok.is at c.item_at.ensures [] in
    c.with_repeat.ensures ∙ end-read _ _ _ _ _ _ h

pub returns-in-Err : goal.returns-in-Err
returns-in-Err c = let h = rw c.in-Err.is at c.item_at.ensures [] in
    add-one _ ∙ end-refused _ _ _ _ h
