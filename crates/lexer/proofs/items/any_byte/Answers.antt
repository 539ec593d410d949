-- `any_byte` meets its contract: the complement of no byte.
use Rattle.lexer.proofs.ItemCases.{holds-any}
use Rattle.lexer.proofs.items.any_byte.Goals as goal

pub returns : goal.returns
returns c = holds-any _ _ c.empty.ensures c.complement.ensures
