-- `write_over` meets its contract, by what the two calls promise and what the registers have.
use Rattle.machine.specs.Words.{frame_of}
use Rattle.machine.proofs.stack.write_over.Goals as goal

pub returns : goal.returns
unfolding frame_of
returns c = (c.push-h.ensures.0, c.write_pair.ensures, rw (c.requires.2, c.requires.3) at c.push-h.ensures.1)
