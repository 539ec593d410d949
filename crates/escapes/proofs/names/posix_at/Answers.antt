-- `posix_at` meets its contract, by whether a colon follows, and a `^` behind it.
use mathlib.Core.Path.{◌∙◌}
use Rattle.escapes.proofs.NameCases.{posix-literal, posix-complement, posix-plain}
use Rattle.escapes.proofs.names.posix_at.Goals as goal

pub returns-then-peek-ne-COLON : goal.returns-then-peek-ne-COLON
returns-then-peek-ne-COLON c = c.single.ensures ∙ posix-literal _ _ _ c.peek.ensures.is c.if-peek-ne-COLON.true

pub returns-then-peek-eq-CARET : goal.returns-then-peek-eq-CARET
returns-then-peek-eq-CARET c = c.posix_name_at.ensures ∙ posix-complement _ _ _ c.peek.ensures.is c.if-peek-ne-COLON.false _ c.peek-2.ensures.is c.if-peek-eq-CARET.true

pub returns : goal.returns
returns c = c.posix_name_at-2.ensures ∙ posix-plain _ _ _ c.peek.ensures.is c.if-peek-ne-COLON.false _ c.peek-2.ensures.is c.if-peek-eq-CARET.false
