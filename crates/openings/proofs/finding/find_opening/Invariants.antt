use Prim.Native.Nat.{◌+◌, ◌*◌, ◌≤◌}
use Rattle.openings.specs.Failing.{Told}
use Rattle.openings.proofs.finding.find_opening.Given as goal

abbrev pub invariant-loop-s : goal.invariant-loop-s
invariant-loop-s l = (l.s.cost + 2 * l.left ≤ 256) × Told l.code l.entry l.s

abbrev pub decreases-loop-s : goal.decreases-loop-s
decreases-loop-s l = l.left
