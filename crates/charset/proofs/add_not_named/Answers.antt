-- `add_not_named` meets its contract, by those of the three functions that it calls.
use mathlib.Core.Path.{◌∙◌}
use Rattle.charset.proofs.add_not_named.Goals as goal

pub returns : goal.returns
returns c x h = c.add_class.ensures x h ∙ rw (c.complement.ensures x h, c.class_of.ensures x h)
