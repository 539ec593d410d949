-- `comment_after` meets its contract, by its test.
use Rattle.lexemes.proofs.blanks.comment_after.Goals as goal

pub returns-then-comment : goal.returns-then-comment
returns-then-comment c = rw c.if-comment.true

pub returns : goal.returns
returns c = rw c.if-comment.false
