-- `run_bytes` meets its contract: with so many steps no byte is left out.
use mathlib.Core.Path.{refl}
use Rattle.plain.proofs.Trying.{all-bytes}
use Rattle.plain.proofs.run_bytes.Goals as goal

pub returns : goal.returns
returns c = (all-bytes c.args.code.now c.args.sub.now c.args.pc c.args.at _ _ c.requires.2 refl c.run_length.ensures.0, c.run_length.ensures.1)
