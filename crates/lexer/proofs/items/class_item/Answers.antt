-- `class_item` meets its contract: a refusal is handed on, and else the words hold the class. The profile is asked for by its flag.
use Rattle.std.proofs.lemmas.Result.{err_from_is_err_and}
use Rattle.lexer.proofs.ItemCases.{class-sound}
use Rattle.lexer.proofs.items.class_item.Goals as goal

pub returns-in_err-class : goal.returns-in_err-class
returns-in_err-class c = λ known. let p = err_from_is_err_and c.from_residual.result c.from_residual.ensures.1 in let g = rw c.in_depot.ensures at c.in_err-class.ensures in rw (p.1, p.2, g)

pub returns : goal.returns
returns c = λ known. class-sound c.args.rule.now _ known _ c.in_ok-class.class (rw (c.ignores_case.ensures, c.in_depot.ensures) at c.in_ok-class.ensures) _ c.byte_item.result (c.byte_item.ensures _ _ known)
