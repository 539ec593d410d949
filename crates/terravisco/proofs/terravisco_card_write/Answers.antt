-- `terravisco_card_write` meets its contract: the call's own promise, with its outcome in numbers.
use mathlib.Core.Path.{◌∙◌, ap}
use Rattle.answers.specs.Cards.{write_numbers}
use Rattle.terravisco.specs.CardLaws.{write-told}
use Rattle.terravisco.proofs.terravisco_card_write.Goals as goal

pub tell_written-requires : goal.tell_written-requires
tell_written-requires c = let a = c.args in
    write-told a.rule.now a.flags a.budget a.rule_area.now a.card.now _ c.write_card-outcome.ensures.outcome_is

pub returns : goal.returns
returns c = let m = c.write_card-outcome.ensures in
    record { answer_is = c.tell_written.ensures ∙ ap write_numbers m.outcome_is; rule_area_is = m.rule_area_is; area_is = m.area_is }
