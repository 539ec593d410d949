-- The rule is gathered and counted. One that is refused, or whose groups the card does not say, leaves the area as it was; else the rule is gathered into
-- it. The rule area is cleared in all.
use mathlib.Core.Path.{sym}
use native.Mathlib.Omega.{arith}
use Rattle.std.proofs.lemmas.Result.{err_from_is_err_and}
use Rattle.syntax.specs.Limits.{rule_limit}
use Rattle.card_format.specs.Cards.{rule_bytes_need}
use Rattle.card_format.specs.CardDemands.{card_of}
use Rattle.cards.specs.Answers.{read_of}
use Rattle.cards.specs.Laws.Returning.{read_unsound, read_miscounted, read_held, size_fits, text-inside, gathered, gathered-size, gathered-room, gathered-counts}
use Rattle.cards.proofs.reading.read_fitting.Goals as goal

pub gather-requires : goal.gather-requires
unfolding rule_limit
gather-requires c = (omega (arith, size_fits c.requires.0), text-inside c.requires.0, size_fits c.requires.0)

pub slice_bounds-bytes-end : goal.slice_bounds-bytes-end
slice_bounds-bytes-end c = gathered-room c.requires.0 _ _ c.gather.ensures

pub slice_bounds-count_groups-end : goal.slice_bounds-count_groups-end
slice_bounds-count_groups-end c = sym (gathered-size c.requires.0 _ _ c.gather.ensures)

pub count_groups-requires : goal.count_groups-requires
count_groups-requires c = (omega (arith, size_fits c.requires.0, gathered-size c.requires.0 _ _ c.gather.ensures), c.requires.0.fits.area_fits)

pub returns-then-counted-held : goal.returns-then-counted-held
unfolding read_of
returns-then-counted-held c = let a = c.args in
    let z = c.requires.0 in
    let n = gathered-counts z _ _ c.gather.ensures _ _ c.count_groups.ensures.counts c.in_ok-counted.was in
    rw c.at.ensures (read_miscounted a.card.now a.rule_area.now a.area.now c.requires.1 (card_of z.rule a.held.flags a.held.budget a.held.groups) z.is z.fits _ c.count_groups.ensures.rule_area_after _ n c.if-counted-held.true)

pub gather-requires-2 : goal.gather-requires-2
unfolding rule_limit rule_bytes_need
gather-requires-2 c = (omega (arith, size_fits c.requires.0), text-inside c.requires.0, omega (arith, size_fits c.requires.0, c.requires.1))

pub returns-in_err-counted : goal.returns-in_err-counted
unfolding read_of
returns-in_err-counted c = let a = c.args in
    let z = c.requires.0 in
    let e = gathered-counts z _ _ c.gather.ensures _ _ c.count_groups.ensures.counts c.in_err-counted.was in
    let q = err_from_is_err_and c.from_residual.result c.from_residual.ensures.1 in
    rw (q.1, q.2) (read_unsound a.card.now a.rule_area.now a.area.now c.requires.1 (card_of z.rule a.held.flags a.held.budget a.held.groups) z.is z.fits _ c.count_groups.ensures.rule_area_after _ _ e)

pub returns : goal.returns
unfolding read_of
returns c = let a = c.args in
    let z = c.requires.0 in
    let n = gathered-counts z _ _ c.gather.ensures _ _ c.count_groups.ensures.counts c.in_ok-counted.was in
    let bytes = gathered z _ _ c.gather-2.ensures in
    rw (← z.sized)
    (read_held a.card.now a.rule_area.now a.area.now c.requires.1 (card_of z.rule a.held.flags a.held.budget a.held.groups) z.is z.fits _ c.count_groups.ensures.rule_area_after (rw c.if-counted-held.false at n) _ bytes)
