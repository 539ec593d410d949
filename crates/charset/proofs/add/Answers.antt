-- `add` meets its contract: what it stores is the word with a shifted one, and a law says which bytes a class so changed has.
use borrow.Author.Rules.{rules}
use Rattle.charset.proofs.Words.{has-add}
use Rattle.charset.proofs.add.Goals as goal

pub returns : goal.returns
returns c x h = has-add c.args.class c.args.b x (search rules)
