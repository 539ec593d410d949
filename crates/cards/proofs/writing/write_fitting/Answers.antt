-- By cases on what is counted: a rule that is refused writes nothing, and of one that is sound its card is written. The rule area is cleared in both.
use mathlib.Core.Path.{subst}
use Rattle.std.proofs.lemmas.Result.{err_from_is_err_and}
use Rattle.cards.specs.Answers.{written_of, Counts}
use Rattle.cards.specs.Laws.Returning.{write_unsound, write_done, writable}
use Rattle.cards.proofs.writing.write_fitting.Goals as goal

pub count_groups-requires : goal.count_groups-requires
count_groups-requires c = (c.requires.0.rule_fits, c.requires.0.area_fits)

pub put_card-requires : goal.put_card-requires
put_card-requires c = let a = c.args in
    let z = subst (Counts a.rule.now a.flags) c.in_ok-groups.was c.count_groups.ensures.counts in
    (writable a.rule.now a.flags a.budget a.rule_area.now a.area.now c.requires.1 c.requires.0 _ z, c.requires.1)

pub returns-in_err-groups : goal.returns-in_err-groups
unfolding written_of
returns-in_err-groups c = let a = c.args in
    let e = subst (Counts a.rule.now a.flags) c.in_err-groups.was c.count_groups.ensures.counts in
    let q = err_from_is_err_and c.from_residual.result c.from_residual.ensures.1 in
    rw (q.1, q.2) (write_unsound a.rule.now a.flags a.budget a.rule_area.now a.area.now c.requires.1 c.requires.0 _ _ e _ c.count_groups.ensures.rule_area_after)

pub returns : goal.returns
unfolding written_of
returns c = let a = c.args in
    let z = subst (Counts a.rule.now a.flags) c.in_ok-groups.was c.count_groups.ensures.counts in
    write_done a.rule.now a.flags a.budget a.rule_area.now a.area.now c.requires.1 c.requires.0 _ z _ _ _ c.put_card.ensures.0 c.count_groups.ensures.rule_area_after c.put_card.ensures.1
