-- `not_newline` meets its contract: the complement of one byte.
use Rattle.lexer.proofs.ItemCases.{holds-rest}
use Rattle.lexer.proofs.items.not_newline.Goals as goal

pub returns : goal.returns
returns c = holds-rest _ _ c.empty.ensures _ c.add.ensures c.complement.ensures
