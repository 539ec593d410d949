-- `group_item` meets its contract: a refusal is handed on, and a number is referred to.
use Rattle.std.proofs.lemmas.Result.{err_from_is_err_and}
use Rattle.lexer.proofs.items.group_item.Goals as goal

pub returns-in_err-number : goal.returns-in_err-number
returns-in_err-number c = λ s folded known words. let p = err_from_is_err_and c.from_residual.result c.from_residual.ensures.1 in rw (p.1, p.2, c.in_err-number.was)

pub returns : goal.returns
returns c = λ s folded known words. rw c.in_ok-number.was
