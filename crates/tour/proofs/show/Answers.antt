-- The area is as long as the rule needs, and what the first pass used of it is within it.
use native.Mathlib.Omega.{arith}
use Rattle.syntax.specs.Limits.{rule_limit, rule_area_need, group_limit, spans_length}
use Rattle.reader.specs.Areas.{table_start}
use Rattle.tour.proofs.show.Goals as goal

pub put_nodes-used-requires : goal.put_nodes-used-requires
unfolding rule_limit table_start rule_area_need spans_length group_limit
put_nodes-used-requires c = (omega arith, omega arith)

pub put_code-requires : goal.put_code-requires
unfolding rule_area_need
put_code-requires c = (omega (arith, c.put_nodes-used.auto.area), omega (arith, c.put_nodes-used.ensures), omega arith)
