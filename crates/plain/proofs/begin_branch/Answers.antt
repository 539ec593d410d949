-- `begin_branch` meets its contract: the frame pushed is the branch that is kept.
use Prim.Native.Nat.{◌+◌}
use lib.ListN.{get_or}
use Rattle.machine.specs.Moves.{carry_out}
use Rattle.machine.proofs.Frames.{go-pushed}
use Rattle.plain.proofs.begin_branch.Goals as goal

pub returns : goal.returns
unfolding carry_out
returns c = λ sub regs. go-pushed (get_or c.args.code.now (c.args.m.pc + 1) 0) c.args.m.at c.args.m.height _ regs _ c.push_explore-h.ensures.0 c.push_explore-h.ensures.1
