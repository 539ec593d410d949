use mathlib.Core.Path.{◌≡◌}
use lib.ListN.{length}
use Rattle.syntax.specs.Tree.{Rule}
use Rattle.semantics.specs.Scans.{tries_left}
use Rattle.machine.specs.Theorem.{Stands, Clear}
use Rattle.scans.specs.Scanning.{Scanning}
use Rattle.scans.proofs.scan_searches.Given as goal

abbrev pub invariant-loop-start : goal.invariant-loop-start
invariant-loop-start l = Clear l.regs
    × (length l.work ≡ length l.initial.work)
    × (length l.results ≡ length l.initial.results)
    × ((x : Rule) → Stands l.code x l.entry → Scanning l.subject x l.budget l.initial.results l.results l.rows l.steps l.from l.barred)

abbrev pub decreases-loop-start : goal.decreases-loop-start
decreases-loop-start l = tries_left l.subject l.from l.barred
