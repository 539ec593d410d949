-- `common_item` meets its contract, by that of the escape's reader.
use Rattle.lexer.proofs.items.common_item.Goals as goal

pub returns : goal.returns
returns c = λ s known. rw c.common_at.ensures at c.member_item.ensures s known
