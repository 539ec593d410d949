-- By the quantifier that stands there: one law for each return.
use mathlib.Core.Path.{sym, ◌∙◌}
use borrow.Author.Rules.{rules}
use Rattle.parts.proofs.Items.{repeat-ends, other_item, other-stray, other-unfit, other-repeat}
use Rattle.parts.proofs.parts.other.Goals as goal

pub repeated-requires : goal.repeated-requires
repeated-requires c = let u = repeat-ends _ _ _ _ _ _ _ (sym c.quantifier_at.ensures ∙ c.in-Times.is) in
    search rules

pub returns-in-Absent : goal.returns-in-Absent
returns-in-Absent c = let a = c.args in
    let turn = c.plain_item in
    other_item a.rule.now a.so_far.cursor a.flags a.so_far.node a.so_far.kind c.quantifier_at.ensures turn.result c.in-Absent.is c.requires.3 turn.ensures

pub returns-in-Stray : goal.returns-in-Stray
returns-in-Stray c = let a = c.args in
    rw c.at.ensures (other-stray a.rule.now a.so_far.cursor a.flags a.so_far.node a.so_far.kind c.quantifier_at.ensures a.area.now c.in-Stray.is)

pub returns-in-Unfit : goal.returns-in-Unfit
returns-in-Unfit c = let a = c.args in
    other-unfit a.rule.now a.so_far.cursor a.flags a.so_far.node a.so_far.kind c.quantifier_at.ensures a.area.now _ c.in-Unfit.is c.unfit.ensures

pub returns-in-Times : goal.returns-in-Times
returns-in-Times c = let a = c.args in
    let turn = c.repeated in
    other-repeat a.rule.now a.so_far.cursor a.flags a.so_far.node a.so_far.kind c.quantifier_at.ensures turn.result _ _ _ _ _ c.in-Times.is turn.ensures
