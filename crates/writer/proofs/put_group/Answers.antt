-- The four numbers of the close, and the three of the open behind them.
use mathlib.Core.Path.{refl}
use native.Mathlib.Omega.{arith}
use Rattle.syntax.specs.Limits.{group_limit, slot}
use Rattle.writer.proofs.Writing.{wrote-both}
use Rattle.writer.proofs.put_group.Goals as goal

pub overflow_mul-number : goal.overflow_mul-number
unfolding group_limit
overflow_mul-number c = omega arith

pub returns : goal.returns
unfolding slot
returns c = wrote-both _ c.put_four.ensures c.put_three.ensures refl refl
