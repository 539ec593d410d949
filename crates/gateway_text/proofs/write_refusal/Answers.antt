-- The number of the reason stands for it.
use Rattle.gateway_text.proofs.write_refusal.Goals as goal

pub returns : goal.returns
returns c = rw c.from.ensures at c.write_refused.ensures
