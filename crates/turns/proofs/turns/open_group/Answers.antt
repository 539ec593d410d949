-- `open_group` meets its contract: two registers are written.
use Rattle.turns.proofs.Turning.{opens-here}
use Rattle.turns.proofs.turns.open_group.Goals as goal

pub returns : goal.returns
returns c = (λ sub choices. opens-here c.args.code.now sub c.args.pc c.args.at c.args.regs.now _ _ c.put_two.ensures)
