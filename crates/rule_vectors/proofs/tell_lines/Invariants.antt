use lib.ListN.{length}
use Rattle.rule_vectors.proofs.tell_lines.Given as goal

abbrev pub decreases-loop-rest : goal.decreases-loop-rest
decreases-loop-rest l = length l.rest
