-- `close_group` meets its contract: the bounds of the numbers that are written.
use native.Mathlib.Omega.{arith}
use Rattle.syntax.specs.Limits.{rule_area_need, registers, spans_length, group_limit, height_limit, nesting_limit}
use Rattle.linker.proofs.close_group.Goals as goal

pub put_two-requires : goal.put_two-requires
unfolding rule_area_need registers spans_length group_limit height_limit nesting_limit
put_two-requires c = (omega arith, omega arith, omega arith)

pub put_two-requires-2 : goal.put_two-requires-2
unfolding rule_area_need registers spans_length group_limit height_limit nesting_limit
put_two-requires-2 c = (omega arith, omega arith, omega arith)
