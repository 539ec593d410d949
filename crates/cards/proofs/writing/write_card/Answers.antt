-- A card area that is too short is met first, then what keeps the rule from being read.
use Rattle.syntax.specs.Limits.{rule_limit}
use Rattle.card_format.specs.Cards.{pieces_for, card_need}
use Rattle.cards.specs.Answers.{written_of}
use Rattle.cards.specs.Laws.Returning.{is-unfit, is-fit, write_short, write-unfit}
use Rattle.cards.proofs.writing.write_card.Goals as goal

pub returns-then-area-lt-CARD_NEED : goal.returns-then-area-lt-CARD_NEED
unfolding written_of card_need pieces_for rule_limit
returns-then-area-lt-CARD_NEED c = let a = c.args in
    rw c.at.ensures (write_short a.rule.now a.flags a.budget a.rule_area.now a.area.now c.if-area-lt-CARD_NEED.true)

pub write_fitting-requires : goal.write_fitting-requires
unfolding card_need pieces_for rule_limit
write_fitting-requires c = let a = c.args in
    (is-fit a.rule.now a.flags a.budget a.rule_area.now _ c.unfit.ensures _ c.in-Ok.is, c.if-area-lt-CARD_NEED.false)

pub returns-in-Err : goal.returns-in-Err
unfolding written_of card_need pieces_for rule_limit
returns-in-Err c = let a = c.args in
    rw c.at-in-Err.ensures (write-unfit a.rule.now a.flags a.budget a.rule_area.now a.area.now c.if-area-lt-CARD_NEED.false _ (is-unfit _ _ c.unfit.ensures _ c.in-Err.is))
