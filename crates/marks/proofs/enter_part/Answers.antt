-- `enter_part` meets its contract: the height and the position are written into the part's registers.
use Prim.Native.Nat.{◌+◌}
use lib.ListN.{get_or}
use Rattle.machine.specs.Moves.{carry_out}
use Rattle.marks.proofs.Marking.{go-marked}
use Rattle.marks.proofs.enter_part.Goals as goal

pub returns : goal.returns
unfolding carry_out
returns c = let e = c.save_and_write-h.ensures in
    λ sub. go-marked (get_or c.args.code.now (c.args.m.pc + 1) 0) c.args.m.at c.args.m.height _ (get_or c.args.code.now (c.args.m.pc + 2) 0) c.args.regs.now _ c.args.work.now _ e.0 e.1 e.2
