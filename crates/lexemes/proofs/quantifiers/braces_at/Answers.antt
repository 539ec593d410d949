-- `braces_at` meets its contract: its tests are those of the definition, and the capped bound serves for the bound itself.
use mathlib.Core.Path.{◌∙◌}
use Rattle.lexemes.proofs.Repeats.{braces-empty, braces-close, braces-comma, braces-other}
use Rattle.lexemes.proofs.quantifiers.braces_at.Goals as goal

pub returns-then-next-at : goal.returns-then-next-at
returns-then-next-at c = braces-empty _ _ _ c.number_at-next.ensures c.if-next-at.true

pub returns-then-b-eq125 : goal.returns-then-b-eq125
returns-then-b-eq125 c = c.from_to.ensures ∙ braces-close _ _ _ c.number_at-next.ensures c.if-next-at.false _ c.peek-b.ensures.is c.if-b-eq125.true

pub returns-then-b-eq44 : goal.returns-then-b-eq44
returns-then-b-eq44 c = c.upper_at.ensures ∙ braces-comma _ _ _ c.number_at-next.ensures c.if-next-at.false _ c.peek-b.ensures.is c.if-b-eq44.true

pub returns : goal.returns
returns c = braces-other _ _ _ c.number_at-next.ensures c.if-next-at.false _ c.peek-b.ensures.is c.if-b-eq125.false c.if-b-eq44.false
