-- `end_round` meets its contract: the registers tell how many rounds were made and where the last began.
use mathlib.Core.Path.{refl}
use Rattle.turns.proofs.Turning.{ends-round}
use Rattle.turns.proofs.turns.end_round.Goals as goal

pub returns : goal.returns
returns c = λ sub. ends-round c.args.code.now sub c.args.pc c.args.at c.args.regs.now _ _ _ refl c.decide.ensures
