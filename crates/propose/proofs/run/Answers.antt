-- A rule that is ready is held: so `prepare` promises, of any line and of any result area that is not too short, and so of none where nothing is needed in it.
use mathlib.Core.Path.{refl}
use mathlib.Core.List.{[]}
use native.Mathlib.Omega.{arith}
use Rattle.syntax.specs.Limits.{rule_area_need}
use Rattle.frame.specs.Laws.Preparing.{is-ready}
use Rattle.propose.proofs.Holding.{readied-holds}
use Rattle.propose.proofs.run.Goals as goal

pub propose_lines-requires : goal.propose_lines-requires
unfolding rule_area_need
propose_lines-requires c = readied-holds (is-ready (c.prepare.ensures 0 [] [] refl refl) _ c.in-Ok.is) (omega arith)
