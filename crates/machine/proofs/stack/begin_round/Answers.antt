-- `begin_round` meets its contract: beginning a round writes two registers and goes on at the body.
use Rattle.machine.proofs.Frames.{begin-saved}
use Rattle.machine.proofs.stack.begin_round.Goals as goal

pub returns : goal.returns
returns c = begin-saved _ _ _ _ _ _ _ _ c.args.work.now _ c.save_and_write-h.ensures.0 c.save_and_write-h.ensures.1 c.save_and_write-h.ensures.2
