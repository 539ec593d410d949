-- `braced_octal_at` meets its contract, by whether a brace follows.
use mathlib.Core.Path.{◌∙◌}
use Rattle.escapes.proofs.EscapeCases.{octal-braced, octal-bare}
use Rattle.escapes.proofs.escapes.braced_octal_at.Goals as goal

pub returns-then-peek-eq-OPENING_BRACE : goal.returns-then-peek-eq-OPENING_BRACE
returns-then-peek-eq-OPENING_BRACE c = c.braced_at.ensures ∙ octal-braced _ _ _ c.peek.ensures.is c.if-peek-eq-OPENING_BRACE.true

pub returns : goal.returns
returns c = rw c.malformed.ensures (octal-bare _ _ _ c.peek.ensures.is c.if-peek-eq-OPENING_BRACE.false)
