-- `edge` meets its contract, by the flag.
use mathlib.Core.Path.{sym, ◌∙◌}
use Rattle.lexer.proofs.items.edge.Goals as goal

pub returns-then-is_multiline : goal.returns-then-is_multiline
returns-then-is_multiline c = rw (sym c.is_multiline.ensures ∙ c.if-is_multiline.true) c.assertion.ensures

pub returns : goal.returns
returns c = rw (sym c.is_multiline.ensures ∙ c.if-is_multiline.false) c.assertion-2.ensures
