-- `upper_at` meets its contract: its tests are those of the definition, and the capped upper bound serves for the bound itself.
use mathlib.Core.Path.{◌∙◌}
use Rattle.lexemes.proofs.Repeats.{upper-close, upper-empty, upper-both, upper-other}
use Rattle.lexemes.proofs.quantifiers.upper_at.Goals as goal

pub returns-then-peek-eq125 : goal.returns-then-peek-eq125
returns-then-peek-eq125 c = c.at_least.ensures ∙ upper-close _ _ _ _ c.peek.ensures.is c.if-peek-eq125.true

pub returns-then-next-at : goal.returns-then-next-at
returns-then-next-at c = upper-empty _ _ _ c.number_at-next.ensures _ _ c.peek.ensures.is c.if-peek-eq125.false c.if-next-at.true

pub returns-then-peek-eq125-2 : goal.returns-then-peek-eq125-2
returns-then-peek-eq125-2 c = c.from_to.ensures ∙ upper-both _ _ _ c.number_at-next.ensures _ _ c.peek.ensures.is c.if-peek-eq125.false c.if-next-at.false _ c.peek-2.ensures.is c.if-peek-eq125-2.true

pub returns : goal.returns
returns c = upper-other _ _ _ c.number_at-next.ensures _ _ c.peek.ensures.is c.if-peek-eq125.false c.if-next-at.false _ c.peek-2.ensures.is c.if-peek-eq125-2.false
