-- `return_first` meets its contract: as `keep_first`, and the position is the one that the other register holds.
use mathlib.Core.Path.{ap}
use Prim.Native.Nat.{◌+◌}
use native.Mathlib.Omega.{arith}
use lib.ListN.{get_or}
use Rattle.machine.specs.Moves.{Stack, go, carry_out}
use Rattle.marks.proofs.return_first.Goals as goal

pub overflow_cast-mark : goal.overflow_cast-mark
overflow_cast-mark c = omega (arith, c.type_inv.regs (get_or c.args.code.now (c.args.m.pc + 2) 0))

pub returns : goal.returns
unfolding carry_out
returns c = λ sub. ap (λ (st : Stack). go (get_or c.args.code.now (c.args.m.pc + 1) 0) (get_or c.args.regs.now ((get_or c.args.code.now (c.args.m.pc + 2) 0) + 1) 0) c.args.regs.now st) c.cut_to-h.ensures.1
