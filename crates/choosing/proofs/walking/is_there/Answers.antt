-- A row is as long as its room, and its captures are registers.
use native.Mathlib.Omega.{arith}
use Rattle.syntax.specs.Limits.{group_limit, spans_length, row_length}
use Rattle.machine.specs.Laws.Code.{spans-in-registers}
use Rattle.choosing.proofs.walking.is_there.Goals as goal

pub bounds-wanted-0 : goal.bounds-wanted-0
unfolding row_length
bounds-wanted-0 c = omega (arith, c.requires.1)

pub write_row-requires : goal.write_row-requires
unfolding group_limit spans_length row_length
write_row-requires c = (omega arith, omega (arith, c.requires.0, spans-in-registers))
