-- A rule bytes' area that is too short is met first, then what keeps the bytes from being a card.
use mathlib.Core.Path.{subst}
use Rattle.syntax.specs.Limits.{rule_limit}
use Rattle.card_format.specs.Cards.{rule_bytes_need}
use Rattle.card_records.specs.Walking.{Finds}
use Rattle.cards.specs.Answers.{read_of}
use Rattle.cards.specs.Laws.Returning.{read_short, read-fails}
use Rattle.cards.proofs.reading.read_card.Goals as goal

pub returns-then-area-lt-RULE_BYTES_NEED : goal.returns-then-area-lt-RULE_BYTES_NEED
unfolding read_of rule_bytes_need rule_limit
returns-then-area-lt-RULE_BYTES_NEED c = rw c.at.ensures (read_short c.args.card.now c.args.rule_area.now c.args.area.now c.if-area-lt-RULE_BYTES_NEED.true)

pub read_found-requires : goal.read_found-requires
unfolding rule_bytes_need rule_limit
read_found-requires c = (subst (Finds c.args.card.now) c.in-Ok.is c.find_card.ensures, c.if-area-lt-RULE_BYTES_NEED.false)

pub returns-in-Err : goal.returns-in-Err
unfolding read_of rule_bytes_need rule_limit
returns-in-Err c = let e = subst (Finds c.args.card.now) c.in-Err.is c.find_card.ensures in
    rw c.at-in-Err.ensures (read-fails c.args.card.now c.args.rule_area.now c.args.area.now c.if-area-lt-RULE_BYTES_NEED.false _ e)
