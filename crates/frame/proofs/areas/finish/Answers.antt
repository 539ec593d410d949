-- `finish` meets its contract: it clears one area after the other.
use Rattle.syntax.specs.Limits.{rule_area_need, work_per_step}
use Rattle.semantics.specs.Calls.{work_area_need}
use Rattle.frame.proofs.areas.finish.Goals as goal

pub clear-requires : goal.clear-requires
unfolding rule_area_need
clear-requires c = c.requires.0

pub clear-requires-2 : goal.clear-requires-2
unfolding work_area_need work_per_step
clear-requires-2 c = c.requires.1

pub returns : goal.returns
unfolding rule_area_need work_area_need work_per_step
returns c = record {
  rule_area_after = c.clear.ensures;
  work_area_after = c.clear-2.ensures;
}
