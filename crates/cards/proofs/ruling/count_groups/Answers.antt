-- What compiling tells is what reading the rule gives, and what it wrote into the area is cleared again.
use mathlib.Core.Path.{◌∙◌}
use native.Mathlib.Omega.{arith}
use Rattle.std.proofs.lemmas.Result.{err_from_is_err_and}
use Rattle.syntax.specs.Limits.{rule_area_need}
use Rattle.frame.specs.Laws.Areas.{cleared-alike}
use Rattle.frame.specs.Laws.Compiled.{compile-refused}
use Rattle.cards.specs.Laws.Returning.{counted}
use Rattle.cards.proofs.ruling.count_groups.Goals as goal

pub clear-requires : goal.clear-requires
unfolding rule_area_need
clear-requires c = omega (arith, c.compile-compiled.ensures.long, c.requires.1)

pub returns : goal.returns
unfolding rule_area_need
returns c = record {
  counts = counted c.compile-compiled.ensures _ c.in_ok-compiled.was;
  rule_area_after = c.clear.ensures ∙ cleared-alike rule_area_need _ _ c.compile-compiled.ensures.rest;
}

pub returns-in_err-compiled : goal.returns-in_err-compiled
unfolding rule_area_need
returns-in_err-compiled c = record {
  counts = let q = err_from_is_err_and c.from_residual.result c.from_residual.ensures.1 in rw (q.1, q.2) (compile-refused c.compile-compiled.ensures _ c.in_err-compiled.was);
  rule_area_after = c.clear.ensures ∙ cleared-alike rule_area_need _ _ c.compile-compiled.ensures.rest;
}
