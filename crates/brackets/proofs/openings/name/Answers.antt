-- The name of a group: one law for each return.
use mathlib.Core.Path.{sym, ◌∙◌}
use native.Mathlib.Omega.{arith}
use Rattle.std.proofs.lemmas.Result.{err_from_is_err_and}
use Rattle.brackets.proofs.Heads.{called-some, called-none, name_in, name-bad, name-twice, name_new}
use Rattle.brackets.proofs.openings.name.Goals as goal

pub group_called-requires : goal.group_called-requires
group_called-requires c = let a = c.args in
    let l = name_in a.rule.now a.at a.start c.in_ok-next.ensures in
    (c.requires.4, omega (arith, l))

pub overflow_cast-name : goal.overflow_cast-name
overflow_cast-name c = let a = c.args in
    let l = name_in a.rule.now a.at a.start c.in_ok-next.ensures in
    omega (arith, l, c.requires.1)

pub overflow_cast-name-2 : goal.overflow_cast-name-2
overflow_cast-name-2 c = let a = c.args in
    let l = name_in a.rule.now a.at a.start c.in_ok-next.ensures in
    omega (arith, l, c.requires.1)

pub returns-in_err-next : goal.returns-in_err-next
returns-in_err-next c = let a = c.args in
    let p = err_from_is_err_and c.from_residual.result c.from_residual.ensures.1 in
    rw (p.1, p.2) (name-bad a.rule.now a.at a.start a.table.now a.opened _ c.in_err-next.ensures)

pub returns-then-is_some : goal.returns-then-is_some
returns-then-is_some c = let a = c.args in
    rw c.at.ensures (name-twice a.rule.now a.at a.start a.table.now a.opened c.in_ok-next.ensures c.group_called.ensures.0 (called-some _ _ (sym c.is_some.ensures ∙ c.if-is_some.true) c.group_called.ensures.1))

pub returns : goal.returns
returns c = let a = c.args in
    rw c.captured.ensures (name_new a.rule.now a.at a.start a.table.now a.opened c.in_ok-next.ensures c.group_called.ensures.0 (called-none _ (sym c.is_some.ensures ∙ c.if-is_some.false)) c.put_name.ensures c.requires.4 c.requires.2 c.requires.3 c.put_name.auto.table)
