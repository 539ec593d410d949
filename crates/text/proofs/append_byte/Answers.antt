-- One store.
use Rattle.text.specs.Laws.Writing.{stored}
use Rattle.text.proofs.append_byte.Goals as goal

pub returns : goal.returns
returns c = stored c.args.out.now c.args.at c.args.byte c.requires
