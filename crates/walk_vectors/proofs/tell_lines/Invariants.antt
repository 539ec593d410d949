use mathlib.Core.Path.{◌≡◌}
use lib.ListN.{length}
use Rattle.walk_vectors.proofs.tell_lines.Given as goal

abbrev pub invariant-loop-rest : goal.invariant-loop-rest
invariant-loop-rest l = (length l.area ≡ length l.initial.area) × (length l.work ≡ length l.initial.work)

abbrev pub decreases-loop-rest : goal.decreases-loop-rest
decreases-loop-rest l = length l.rest
