-- `open_group` meets its contract: opening writes the position into the group's registers.
use Prim.Native.Nat.{◌+◌}
use lib.ListN.{get_or}
use Rattle.machine.specs.Moves.{carry_out}
use Rattle.machine.proofs.Frames.{go-saved}
use Rattle.nodes.proofs.open_group.Goals as goal

pub returns : goal.returns
unfolding carry_out
returns c = λ sub. go-saved (get_or c.args.code.now (c.args.m.pc + 1) 0) c.args.m.at c.args.m.height _ (get_or c.args.code.now (c.args.m.pc + 2) 0) c.args.m.at 0 c.args.regs.now _ c.args.work.now _ c.save_and_write-h.ensures.0 c.save_and_write-h.ensures.1 c.save_and_write-h.ensures.2
