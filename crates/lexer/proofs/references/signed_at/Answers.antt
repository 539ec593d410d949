-- `signed_at` meets its contract, by whether a minus stands first.
use mathlib.Core.Path.{◌∙◌}
use Rattle.lexer.proofs.ReferenceCases.{signed-minus, signed-plain}
use Rattle.lexer.proofs.references.signed_at.Goals as goal

pub returns-then-peek-eq-MINUS : goal.returns-then-peek-eq-MINUS
returns-then-peek-eq-MINUS c = c.backward_at.ensures ∙ signed-minus _ _ _ _ _ c.peek.ensures.is c.if-peek-eq-MINUS.true

pub returns : goal.returns
returns c = c.forward_at.ensures ∙ signed-plain _ _ _ _ _ c.peek.ensures.is c.if-peek-eq-MINUS.false
