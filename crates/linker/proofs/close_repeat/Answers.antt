-- `close_repeat` meets its contract: the bounds of the numbers that are written.
use native.Mathlib.Omega.{arith}
use mathlib.Core.Path.{◌≡◌, refl, ◌∙◌}
use lib.ListN.{length, length-set}
use Rattle.syntax.specs.Limits.{rule_area_need, registers, spans_length, group_limit, height_limit, nesting_limit}
use Rattle.linker.proofs.close_repeat.Goals as goal

pub put_two-requires : goal.put_two-requires
unfolding rule_area_need registers spans_length group_limit height_limit nesting_limit
put_two-requires c = (simp length-set (omega arith), omega arith, omega arith)

pub put-requires : goal.put-requires
unfolding rule_area_need
put-requires c = (let l : length c.put_two.new.area ≡ length c.args.area.now = c.put_two.auto.area ∙ simp length-set refl in omega arith, omega arith)
