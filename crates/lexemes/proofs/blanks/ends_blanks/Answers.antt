-- `ends_blanks` meets its contract, by its tests in their order.
use mathlib.Core.Path.{sym, ◌∙◌}
use Rattle.lexemes.proofs.blanks.ends_blanks.Goals as goal

pub returns-then-in_named : goal.returns-then-in_named
returns-then-in_named c = rw (c.if-comment.false, sym c.in_named.ensures ∙ c.if-in_named.true)

pub returns : goal.returns
returns c = rw (c.if-comment.false, sym c.in_named.ensures ∙ c.if-in_named.false)
