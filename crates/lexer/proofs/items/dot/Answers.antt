-- `dot` meets its contract, by the flag.
use mathlib.Core.Path.{sym, ◌∙◌}
use Rattle.lexer.proofs.items.dot.Goals as goal

pub returns-then-dot_takes_all : goal.returns-then-dot_takes_all
returns-then-dot_takes_all c = rw (sym c.dot_takes_all.ensures ∙ c.if-dot_takes_all.true) c.any_byte.ensures

pub returns : goal.returns
returns c = rw (sym c.dot_takes_all.ensures ∙ c.if-dot_takes_all.false) c.not_newline.ensures
