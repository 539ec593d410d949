-- `item_end` meets its contract: one law for each return, by what stands at the place.
use mathlib.Core.Path.{sym, ◌∙◌}
use Rattle.reasons.specs.Laws.Items.{end-break, end-opening, end-item}
use Rattle.reasons.proofs.items.item_end.Goals as goal

pub returns-then-breaks : goal.returns-then-breaks
returns-then-breaks c = c.with_repeat.ensures ∙ end-break _ _ _ (sym c.breaks_line-breaks.ensures ∙ c.if-breaks.true)

pub returns-then-opens : goal.returns-then-opens
returns-then-opens c = end-opening _ _ _ (sym c.breaks_line-breaks.ensures ∙ c.if-breaks.false) (sym c.opens_not_ahead-opens.ensures ∙ c.if-opens.true)

pub returns : goal.returns
returns c = c.token_end.ensures ∙ end-item _ _ _ (sym c.breaks_line-breaks.ensures ∙ c.if-breaks.false) (sym c.opens_not_ahead-opens.ensures ∙ c.if-opens.false)
