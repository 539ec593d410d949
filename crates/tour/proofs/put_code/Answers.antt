-- The rule that the gateway reads stands compiled in the area, whose length stays.
use mathlib.Core.Path.{◌∙◌}
use Rattle.tour.proofs.put_code.Goals as goal

pub put_line-requires : goal.put_line-requires
put_line-requires c = ((_, rw c.in-Ok.is at c.prepare.ensures), c.prepare.auto.rule_area ∙ c.requires.0, c.requires.2)
