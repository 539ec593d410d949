-- `member_item` meets its contract: a refusal is handed on, and else the words hold the member alone.
use Rattle.std.proofs.lemmas.Result.{err_from_is_err_and}
use Rattle.lexer.proofs.items.member_item.Goals as goal

pub returns-in_err-member : goal.returns-in_err-member
returns-in_err-member c = λ s known. let p = err_from_is_err_and c.from_residual.result c.from_residual.ensures.1 in rw (p.1, p.2, c.in_err-member.was)

pub returns : goal.returns
returns c = λ s known. rw c.in_ok-member.was (c.only_item.ensures s known)
