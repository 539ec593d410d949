-- `begin` meets its contract: the first node alone waits.
use mathlib.Core.Path.{refl}
use Rattle.openings.specs.Laws.Searching.{told-first}
use Rattle.openings.proofs.finding.begin.Goals as goal

pub returns : goal.returns
returns c = (refl, λ p. told-first p c.args.entry _ refl refl refl refl)
