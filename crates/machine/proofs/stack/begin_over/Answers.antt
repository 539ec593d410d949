-- `begin_over` meets its contract: two registers are written, and the machine goes on at the body.
use Rattle.machine.proofs.Frames.{go-saved}
use Rattle.machine.proofs.stack.begin_over.Goals as goal

pub returns : goal.returns
returns c = let a = c.args in
    go-saved _ _ _ _ a.k.register a.n a.at a.regs.now _ a.work.now _ c.write_over-h.ensures.0 c.write_over-h.ensures.1 c.write_over-h.ensures.2
