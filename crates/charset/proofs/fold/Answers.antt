-- `fold` meets its contract: it stores each of the letters' two words with the masked bits of the other, and a law says which bytes a class so
-- changed has. The checker computes the mask's test for the mask of the goal.
use borrow.Author.Rules.{rules}
use Rattle.charset.specs.Named.{in_range}
use Rattle.charset.proofs.Letters.{has-fold}
use Rattle.charset.proofs.fold.Goals as goal

pub returns : goal.returns
unfolding in_range
returns c x h = has-fold c.args.class _ tt (search rules) x
