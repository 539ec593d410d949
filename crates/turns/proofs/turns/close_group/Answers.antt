-- `close_group` meets its contract: the span is written.
use Rattle.turns.proofs.Turning.{closes_here}
use Rattle.turns.proofs.turns.close_group.Goals as goal

pub returns : goal.returns
returns c = (λ sub choices. closes_here c.args.code.now sub c.args.pc c.args.at c.args.regs.now _ _ c.put_two.ensures)
