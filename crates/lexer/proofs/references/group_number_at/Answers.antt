-- `group_number_at` meets its contract: with no brace; with one, by what was read behind it and by whether it is closed.
use Rattle.std.proofs.lemmas.Result.{err_from_is_err_and}
use mathlib.Core.Path.{◌∙◌}
use Rattle.lexer.proofs.ReferenceCases.{group-bare, group-bad, group-closed, group-open}
use Rattle.lexer.proofs.references.group_number_at.Goals as goal

pub returns-then-peek-ne-OPENING_BRACE : goal.returns-then-peek-ne-OPENING_BRACE
returns-then-peek-ne-OPENING_BRACE c = c.signed_at.ensures ∙ group-bare _ _ _ _ c.peek.ensures.is c.if-peek-ne-OPENING_BRACE.true

pub returns-in_err-group : goal.returns-in_err-group
returns-in_err-group c = let p = err_from_is_err_and c.from_residual.result c.from_residual.ensures.1 in rw (p.1, p.2) (group-bad _ _ _ _ c.peek.ensures.is c.if-peek-ne-OPENING_BRACE.false _ c.in_err-group.ensures)

pub returns-then-peek-ne-CLOSING_BRACE : goal.returns-then-peek-ne-CLOSING_BRACE
returns-then-peek-ne-CLOSING_BRACE c = rw c.at.ensures (group-open _ _ _ _ c.peek.ensures.is c.if-peek-ne-OPENING_BRACE.false c.in_ok-group.group c.in_ok-group.ensures _ c.peek-2.ensures.is c.if-peek-ne-CLOSING_BRACE.true)

pub returns : goal.returns
returns c = group-closed _ _ _ _ c.peek.ensures.is c.if-peek-ne-OPENING_BRACE.false c.in_ok-group.group c.in_ok-group.ensures _ c.peek-2.ensures.is c.if-peek-ne-CLOSING_BRACE.false
