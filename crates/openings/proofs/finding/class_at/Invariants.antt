use lib.ListN.{drop}
use Rattle.charset.specs.Class.{has}
use Rattle.charset.proofs.Words.{Done}
use Rattle.openings.proofs.finding.class_at.Given as goal

abbrev pub invariant-loop-i : goal.invariant-loop-i
invariant-loop-i l = Done (has (drop l.base l.code)) l.i l.class
