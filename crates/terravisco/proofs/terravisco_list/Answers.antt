-- `terravisco_list` meets its contract: the call's own promise, with its outcome in numbers.
use mathlib.Core.Path.{◌∙◌, ap}
use Rattle.answers.specs.Answers.{list_numbers}
use Rattle.frame.specs.Inputs.{call_of}
use Rattle.terravisco.specs.Laws.{list-told}
use Rattle.terravisco.proofs.terravisco_list.Goals as goal

pub tell_listing-requires : goal.tell_listing-requires
tell_listing-requires c = let a = c.args in
    list-told _ (call_of a.rule.now a.flags a.subject.now a.budget a.rule_area.now a.work_area.now a.res.now a.names.now) c.list_readings-outcome.ensures.outcome_is

pub returns : goal.returns
returns c = let m = c.list_readings-outcome.ensures in
    record { answer_is = c.tell_listing.ensures ∙ ap list_numbers m.outcome_is; rule_area_is = m.rule_area_is; work_area_is = m.work_area_is; result_area_is = m.result_area_is; names_is = m.names_is }
