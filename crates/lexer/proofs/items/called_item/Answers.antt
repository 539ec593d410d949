-- `called_item` meets its contract: a refusal is handed on, and a name is referred to.
use Rattle.std.proofs.lemmas.Result.{err_from_is_err_and}
use Rattle.lexer.proofs.ItemCases.{calling-sound}
use Rattle.lexer.proofs.items.called_item.Goals as goal

pub returns-in_err-called : goal.returns-in_err-called
returns-in_err-called c = λ s folded known words a h. let p = err_from_is_err_and c.from_residual.result c.from_residual.ensures.1 in let g = rw c.in_err-called.was at h in rw (p.1, p.2, g)

pub returns : goal.returns
returns c = λ s folded known words a h. calling-sound s folded known words a c.in_ok-called.called (rw c.in_ok-called.was at h)
