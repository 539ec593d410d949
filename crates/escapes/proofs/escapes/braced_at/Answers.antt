-- `braced_at` meets its contract: no digit, digits and another byte, or digits and a closing brace.
use mathlib.Core.Path.{◌∙◌}
use Rattle.escapes.proofs.EscapeCases.{braced-none, braced-close, braced-open}
use Rattle.escapes.proofs.escapes.braced_at.Goals as goal

pub returns-then-next-from : goal.returns-then-next-from
returns-then-next-from c = rw c.malformed.ensures (braced-none _ _ _ _ _ c.number_at-next.ensures c.if-next-from.true)

pub returns-then-peek-ne-CLOSING_BRACE : goal.returns-then-peek-ne-CLOSING_BRACE
returns-then-peek-ne-CLOSING_BRACE c = rw c.malformed-then-peek-ne-CLOSING_BRACE.ensures (braced-open _ _ _ _ _ c.number_at-next.ensures c.if-next-from.false _ c.peek.ensures.is c.if-peek-ne-CLOSING_BRACE.true)

pub returns : goal.returns
returns c = c.byte_of.ensures ∙ braced-close _ _ _ _ _ c.number_at-next.ensures c.if-next-from.false _ c.peek.ensures.is c.if-peek-ne-CLOSING_BRACE.false
