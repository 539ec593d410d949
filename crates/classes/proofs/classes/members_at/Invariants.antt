use Prim.Native.Nat.{◌-◌}
use lib.ListN.{length}
use Rattle.classes.proofs.ClassCases.{Collected}
use Rattle.classes.proofs.classes.members_at.Given as goal

abbrev pub invariant-loop-member : goal.invariant-loop-member
invariant-loop-member l = Collected l.folded l.strict l.rule l.from l.start l.words l.at

abbrev pub decreases-loop-member : goal.decreases-loop-member
decreases-loop-member l = length l.rule - l.at
