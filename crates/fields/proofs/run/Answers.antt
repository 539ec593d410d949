-- A rule that is ready is held: so `prepare` promises, of any line and of any result area that is not too short.
use mathlib.Core.Path.{refl}
use mathlib.Core.List.{[]}
use native.Mathlib.Omega.{arith}
use Rattle.syntax.specs.Limits.{rule_area_need}
use Rattle.frame.specs.Laws.Preparing.{is-ready}
use Rattle.page_lines.specs.Laws.Holding.{readied-holds}
use Rattle.fields.proofs.run.Goals as goal

pub look_on-requires : goal.look_on-requires
unfolding rule_area_need
look_on-requires c = (readied-holds (is-ready (c.prepare.ensures 0 [] [] refl refl) _ c.in-Ok.is) (omega arith), c.requires.1)
