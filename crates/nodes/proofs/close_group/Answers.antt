-- `close_group` meets its contract: closing writes where the group was opened, and the position, into its span.
use Prim.Native.Nat.{◌+◌}
use lib.ListN.{get_or}
use Rattle.machine.specs.Moves.{carry_out}
use Rattle.machine.proofs.Frames.{go-saved}
use Rattle.nodes.proofs.close_group.Goals as goal

pub returns : goal.returns
unfolding carry_out
returns c = λ sub. go-saved (get_or c.args.code.now (c.args.m.pc + 1) 0) c.args.m.at c.args.m.height _ (get_or c.args.code.now (c.args.m.pc + 3) 0) (get_or c.args.regs.now (get_or c.args.code.now (c.args.m.pc + 2) 0) 0) c.args.m.at c.args.regs.now _ c.args.work.now _ c.save_and_write-h.ensures.0 c.save_and_write-h.ensures.1 c.save_and_write-h.ensures.2
