-- `begin_round` meets its contract: the count and the position are written.
use Rattle.turns.proofs.Turning.{begins-round}
use Rattle.turns.proofs.turns.begin_round.Goals as goal

pub returns : goal.returns
returns c = λ choices. begins-round c.args.code.now c.args.q c.args.n _ c.args.at c.args.regs.now _ _ c.count_round-rounds.ensures c.put_two.ensures
