use Prim.Native.Nat.{◌-◌}
use lib.ListN.{length}
use Rattle.finding.specs.Registers.{Fresh}
use Rattle.batch_lines.proofs.Filling.{Filling}
use Rattle.batch_lines.proofs.match_lines_held.Given as goal

abbrev pub invariant-loop-from : goal.invariant-loop-from
invariant-loop-from l = Filling l.code l.entry l.buffer l.budget l.initial.work l.initial.results l.work l.results l.from l.at × Fresh l.groups l.regs

abbrev pub decreases-loop-from : goal.decreases-loop-from
decreases-loop-from l = length l.buffer - l.from
