-- `empty` meets its contract: a class of words that are 0 has no byte.
use Rattle.charset.proofs.Words.{has-none}
use Rattle.charset.proofs.empty.Goals as goal

pub returns : goal.returns
returns c x h = has-none 8 x
