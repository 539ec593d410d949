-- `put_after` meets its contract: the bounds of the one number that may be written.
use native.Mathlib.Omega.{arith}
use Rattle.syntax.specs.Limits.{rule_area_need}
use Rattle.linker.proofs.put_after.Goals as goal

pub put-requires : goal.put-requires
unfolding rule_area_need
put-requires c = let l = c.requires.2 c.if-area-p-eq-NOT_AHEAD.true in (omega arith, omega arith)
