-- `terravisco_card_read` meets its contract: the call's own promise, with its outcome in numbers.
use mathlib.Core.Path.{◌∙◌, ap}
use native.Mathlib.Omega.{arith}
use Rattle.card_format.specs.CardDemands.{Bytes}
use Rattle.answers.specs.Cards.{read_numbers}
use Rattle.terravisco.specs.CardLaws.{read_told}
use Rattle.terravisco.proofs.terravisco_card_read.Goals as goal

pub tell_read-requires : goal.tell_read-requires
tell_read-requires c = let a = c.args in
    let bytes : Bytes a.card.now = λ i. omega (arith, c.type_inv.card i) in
    read_told a.card.now a.rule_area.now a.rule_bytes.now bytes _ c.read_card-outcome.ensures.outcome_is

pub returns : goal.returns
returns c = let m = c.read_card-outcome.ensures in
    record { answer_is = c.tell_read.ensures ∙ ap read_numbers m.outcome_is; rule_area_is = m.rule_area_is; area_is = m.area_is }
