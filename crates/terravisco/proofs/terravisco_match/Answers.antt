-- `terravisco_match` meets its contract: the call's own promise, with its outcome in numbers.
use mathlib.Core.Path.{◌∙◌, ap}
use Rattle.answers.specs.Answers.{match_numbers}
use Rattle.frame.specs.Inputs.{call_of}
use Rattle.terravisco.specs.Laws.{match-told}
use Rattle.terravisco.proofs.terravisco_match.Goals as goal

pub tell_match-requires : goal.tell_match-requires
tell_match-requires c = let a = c.args in
    match-told _ (call_of a.rule.now a.flags a.subject.now a.budget a.rule_area.now a.work_area.now a.res.now a.names.now) c.match_line-outcome.ensures.outcome_is

pub returns : goal.returns
returns c = let m = c.match_line-outcome.ensures in
    record { answer_is = c.tell_match.ensures ∙ ap match_numbers m.outcome_is; rule_area_is = m.rule_area_is; work_area_is = m.work_area_is; result_area_is = m.result_area_is; names_is = m.names_is }
