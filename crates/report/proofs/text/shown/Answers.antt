-- By cases on what `is_printed` tells.
use mathlib.Core.Path.{sym, ◌∙◌}
use Rattle.report.specs.Text.{shown_byte}
use Rattle.report.proofs.text.shown.Goals as goal

pub returns-then-is_printed : goal.returns-then-is_printed
unfolding shown_byte
returns-then-is_printed c = rw (sym c.is_printed.ensures ∙ c.if-is_printed.true)

pub returns-else-is_printed : goal.returns-else-is_printed
unfolding shown_byte
returns-else-is_printed c = rw (sym c.is_printed.ensures ∙ c.if-is_printed.false)
