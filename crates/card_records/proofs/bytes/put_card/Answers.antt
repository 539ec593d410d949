-- The loop's invariant: the first i bytes of the card stand at the front, and behind them what stood there.
use mathlib.Core.Path.{◌≡◌, ◌∙◌}
use native.Mathlib.Omega.{arith}
use lib.ListN.{length, length-set}
use Rattle.syntax.specs.Limits.{rule_limit}
use Rattle.card_format.specs.Cards.{pieces_for, written}
use Rattle.card_format.specs.CardDemands.{card_of}
use Rattle.card_format.specs.Places.{text_end}
use Rattle.card_format.proofs.Laws.Written.{written-long, written-fits}
use Rattle.card_format.proofs.Laws.Filling.{filled_more, filled-all}
use Rattle.card_records.proofs.bytes.put_card.Goals as goal

pub text_end-total-requires : goal.text_end-total-requires
unfolding rule_limit
text_end-total-requires c = omega (arith, c.requires.0.rule_fits)

pub overflow_add-total : goal.overflow_add-total
unfolding rule_limit text_end pieces_for
overflow_add-total c = omega (arith, c.requires.0.rule_fits)

pub card_byte-requires : goal.card_byte-requires
card_byte-requires c = let a = c.args in
    (c.requires.0, omega (arith, c.text_end-total.ensures, written-long (card_of a.rule.now a.flags a.budget a.groups)))

pub bounds-area-i : goal.bounds-area-i
bounds-area-i c = let a = c.args in
    let k = card_of a.rule.now a.flags a.budget a.groups in
    omega (arith, c.text_end-total.ensures, written-long k, written-fits k c.requires.0.rule_fits, c.requires.1, c.loop-i.invariant.1)

pub loop-i-preserved : goal.loop-i-preserved
loop-i-preserved c = let a = c.args in
    let k = card_of a.rule.now a.flags a.budget a.groups in
    let l = c.loop-i in (
      omega arith,
      simp length-set l.invariant.1,
      filled_more (written k) a.area.now l.area l.i _ (omega (arith, c.text_end-total.ensures, written-long k)) (omega (arith, written-fits k c.requires.0.rule_fits, c.requires.1)) l.invariant.2 c.card_byte.ensures,
    )

pub shape_of-area : goal.shape_of-area
shape_of-area c = c.loop-i.invariant.1

pub returns : goal.returns
returns c = let a = c.args in
    let k = card_of a.rule.now a.flags a.budget a.groups in
    let all : c.loop-i.i ≡ length (written k) = omega (arith, c.text_end-total.ensures, written-long k) in
    (omega (arith, c.text_end-total.ensures, written-long k), c.loop-i.invariant.2 ∙ filled-all (written k) a.area.now c.loop-i.i all)
