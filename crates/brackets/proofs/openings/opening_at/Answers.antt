-- The opening of a group: its first bytes, its depth, and then its name, which settle its reading; one law for each return.
use Rattle.std.proofs.lemmas.Result.{err_from_is_err_and}
use Rattle.brackets.proofs.Heads.{opening-unknown, too-deep, opening-form, opening-named, opening-unnamed}
use Rattle.brackets.proofs.openings.opening_at.Goals as goal

pub returns-in_err-bracket : goal.returns-in_err-bracket
returns-in_err-bracket c = let a = c.args in
    let p = err_from_is_err_and c.from_residual.result c.from_residual.ensures.1 in
    λ flags. rw (p.1, p.2) (opening-unknown a.rule.now a.table.now flags a.depth a.at a.opened _ c.in_err-bracket.ensures)

pub returns-then-depth-eq0 : goal.returns-then-depth-eq0
returns-then-depth-eq0 c = let a = c.args in
    λ flags. rw c.at.ensures (too-deep a.rule.now a.table.now flags a.depth a.at a.opened _ c.in_ok-bracket.ensures c.if-depth-eq0.true)

pub name-requires : goal.name-requires
name-requires c = let a = c.args in
    let k = rw c.in-Named.is at c.in_ok-bracket.ensures in
    (k.within, c.requires.1, k.numbered.1, c.requires.3, c.requires.4)

pub returns-in-Named : goal.returns-in-Named
returns-in-Named c = let a = c.args in
    let k = rw c.in-Named.is at c.in_ok-bracket.ensures in
    λ flags. opening-named a.rule.now a.table.now flags a.depth a.at a.opened k _ c.name.result c.if-depth-eq0.false c.name.ensures

pub put_name-requires : goal.put_name-requires
put_name-requires c = let a = c.args in
    let k = rw c.in-Captures.is at c.in_ok-bracket.ensures in
    (k.numbered.1, c.requires.3)

pub captured-requires : goal.captured-requires
captured-requires c = let a = c.args in
    let k = rw c.in-Captures.is at c.in_ok-bracket.ensures in
    k.numbered.1

pub returns-in-Captures : goal.returns-in-Captures
returns-in-Captures c = let a = c.args in
    let k = rw c.in-Captures.is at c.in_ok-bracket.ensures in
    λ flags. rw c.captured.ensures (opening-unnamed a.rule.now a.table.now flags a.depth a.at a.opened k c.if-depth-eq0.false c.put_name.ensures c.requires.4 c.requires.3 c.put_name.auto.table)

pub returns-in-Begins : goal.returns-in-Begins
returns-in-Begins c = let a = c.args in
    let k = rw c.in-Begins.is at c.in_ok-bracket.ensures in
    λ flags. opening-form a.rule.now a.table.now flags a.depth a.at a.opened k c.if-depth-eq0.false c.requires.2 c.requires.4
