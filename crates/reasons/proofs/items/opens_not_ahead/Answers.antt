-- `opens_not_ahead` meets its contract, byte by byte.
use Rattle.reasons.specs.Laws.Items.{opens_not, opens-other, opens_by}
use Rattle.reasons.proofs.items.opens_not_ahead.Goals as goal

pub returns-then-b-ne-OPENING : goal.returns-then-b-ne-OPENING
returns-then-b-ne-OPENING c = opens_not _ _ c.peek-b.ensures c.if-b-ne-OPENING.true

pub returns-then-d-ne-QUESTION : goal.returns-then-d-ne-QUESTION
returns-then-d-ne-QUESTION c = opens-other _ _ c.peek-b.ensures c.if-b-ne-OPENING.false c.peek-d.ensures c.if-d-ne-QUESTION.true

pub returns : goal.returns
returns c = opens_by _ _ c.peek-b.ensures c.if-b-ne-OPENING.false c.peek-d.ensures c.if-d-ne-QUESTION.false c.peek-e.ensures
