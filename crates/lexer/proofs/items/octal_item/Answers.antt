-- `octal_item` meets its contract, by that of the escape's reader.
use Rattle.lexer.proofs.items.octal_item.Goals as goal

pub returns : goal.returns
returns c = λ s known. rw c.octal_at.ensures at c.member_item.ensures s known
