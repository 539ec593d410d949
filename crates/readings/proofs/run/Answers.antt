-- A rule that is ready is held: so `prepare` promises, of any line and of any result area that is not too short, and so of none where nothing is needed in it.
use mathlib.Core.Path.{refl}
use mathlib.Core.List.{[]}
use native.Mathlib.Omega.{arith}
use Rattle.syntax.specs.Limits.{rule_area_need}
use Rattle.frame.specs.Laws.Preparing.{is-ready}
use Rattle.page_lines.specs.Laws.Holding.{readied-holds}
use Rattle.readings.proofs.run.Goals as goal

pub report_as_page-requires : goal.report_as_page-requires
unfolding rule_area_need
report_as_page-requires c = readied-holds (is-ready (c.prepare.ensures 0 [] [] refl refl) _ c.in-Ok.is) (omega arith)

pub report_lines-requires : goal.report_lines-requires
unfolding rule_area_need
report_lines-requires c = readied-holds (is-ready (c.prepare.ensures 0 [] [] refl refl) _ c.in-Ok.is) (omega arith)
