-- `terravisco_check` meets its contract: the call's own promise, with its outcome in numbers.
use mathlib.Core.Path.{◌∙◌, ap}
use Rattle.answers.specs.Answers.{check_numbers}
use Rattle.frame.specs.Inputs.{call_of}
use Rattle.terravisco.specs.Laws.{check-told}
use Rattle.terravisco.proofs.terravisco_check.Goals as goal

pub tell_check-requires : goal.tell_check-requires
tell_check-requires c = let a = c.args in
    check-told _ a.proposal.now (call_of a.rule.now a.flags a.subject.now a.budget a.rule_area.now a.work_area.now a.res.now a.names.now) c.check-outcome.ensures.outcome_is

pub returns : goal.returns
returns c = let m = c.check-outcome.ensures in
    record { answer_is = c.tell_check.ensures ∙ ap check_numbers m.outcome_is; rule_area_is = m.rule_area_is; work_area_is = m.work_area_is; result_area_is = m.result_area_is; names_is = m.names_is }
