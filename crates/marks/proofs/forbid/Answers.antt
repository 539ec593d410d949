-- `forbid` meets its contract: going on behind the part is pushed first, so that it is among the choices to be given up.
use Prim.Native.Nat.{◌+◌}
use lib.ListN.{get_or}
use Rattle.marks.proofs.Marking.{go-forbidden}
use Rattle.marks.proofs.forbid.Goals as goal

pub returns : goal.returns
returns c = let k = c.push_explore-kept.ensures in
    let e = c.save_and_write-h.ensures in
    go-forbidden (get_or c.args.code.now (c.args.m.pc + 1) 0) c.args.m.at c.args.note c.args.m.height _ _ (get_or c.args.code.now (c.args.m.pc + 2) 0) (get_or c.args.code.now (c.args.m.pc + 3) 0) c.args.regs.now _ c.args.work.now _ _ k.0 k.1 e.0 e.1 e.2
