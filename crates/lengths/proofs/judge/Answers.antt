-- `judge` meets its contract: what was found of the whole rule, references first.
use Rattle.std.proofs.lemmas.Result.{err_from_is_err_and}
use Rattle.syntax.specs.Limits.{level_limit, height_limit, nesting_limit}
use Rattle.lengths.proofs.Insides.{judged-first, judged-rest}
use Rattle.lengths.proofs.judge.Goals as goal

pub inside-m-requires : goal.inside-m-requires
unfolding level_limit height_limit nesting_limit
inside-m-requires c = c.requires

pub returns-in_err-refuse_at : goal.returns-in_err-refuse_at
returns-in_err-refuse_at c = let p = err_from_is_err_and c.from_residual.result c.from_residual.ensures.1 in rw (p.1, p.2) (judged-first _ _ _ c.inside-m.ensures _ _ c.refuse_at.ensures c.in_err-refuse_at.was)

pub returns : goal.returns
returns c = judged-rest _ _ _ c.inside-m.ensures _ _ c.refuse_at.ensures c.in_ok-refuse_at.was c.refuse_at-2.ensures
