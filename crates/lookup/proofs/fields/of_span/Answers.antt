-- By cases on what `is_unset` tells.
use mathlib.Core.Path.{sym, ◌∙◌}
use Rattle.lookup.specs.Lookup.{of_span}
use Rattle.lookup.proofs.fields.of_span.Goals as goal

pub returns-then-is_unset : goal.returns-then-is_unset
unfolding of_span
returns-then-is_unset c = rw (sym c.is_unset.ensures ∙ c.if-is_unset.true)

pub returns : goal.returns
unfolding of_span
returns c = rw (sym c.is_unset.ensures ∙ c.if-is_unset.false)
