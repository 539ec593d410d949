-- `add_named` meets its contract, by those of the two functions that it calls.
use mathlib.Core.Path.{◌∙◌}
use Rattle.charset.proofs.add_named.Goals as goal

pub returns : goal.returns
returns c x h = c.add_class.ensures x h ∙ rw (c.class_of.ensures x h)
