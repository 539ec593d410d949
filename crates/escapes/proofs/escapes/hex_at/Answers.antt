-- `hex_at` meets its contract: a brace, no digit, one digit, or two.
use mathlib.Core.Path.{◌∙◌}
use Rattle.escapes.proofs.EscapeCases.{hex-braced, hex-none, hex-one, hex-two}
use Rattle.escapes.proofs.escapes.hex_at.Goals as goal

pub returns-then-peek-eq-OPENING_BRACE : goal.returns-then-peek-eq-OPENING_BRACE
returns-then-peek-eq-OPENING_BRACE c = c.braced_at.ensures ∙ hex-braced _ _ _ c.peek.ensures.is c.if-peek-eq-OPENING_BRACE.true

pub returns-in_default : goal.returns-in_default
returns-in_default c = rw c.malformed.ensures (hex-none _ _ _ c.peek.ensures.is c.if-peek-eq-OPENING_BRACE.false c.in_default.ensures)

pub returns-in_default-digit_at : goal.returns-in_default-digit_at
returns-in_default-digit_at c = rw c.malformed-in_default-digit_at.ensures (hex-one _ _ _ c.peek.ensures.is c.if-peek-eq-OPENING_BRACE.false _ c.in-Some.ensures c.in_default-digit_at.ensures)

pub returns : goal.returns
returns c = c.byte_of.ensures ∙ hex-two _ _ _ c.peek.ensures.is c.if-peek-eq-OPENING_BRACE.false _ c.in-Some.ensures _ c.in-Some-digit_at.ensures
