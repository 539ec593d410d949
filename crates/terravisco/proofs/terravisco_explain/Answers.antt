-- `terravisco_explain` meets its contract: the call's own promise, with its outcome in numbers.
use mathlib.Core.Path.{◌∙◌, ap}
use Rattle.answers.specs.Answers.{explain_numbers}
use Rattle.frame.specs.Inputs.{call_of}
use Rattle.terravisco.specs.Laws.{explain-told}
use Rattle.terravisco.proofs.terravisco_explain.Goals as goal

pub tell_explanation-requires : goal.tell_explanation-requires
tell_explanation-requires c = let a = c.args in
    explain-told _ (call_of a.rule.now a.flags a.subject.now a.budget a.rule_area.now a.work_area.now a.marks.now a.names.now) c.explain-outcome.ensures.outcome_is

pub returns : goal.returns
returns c = let m = c.explain-outcome.ensures in
    record { answer_is = c.tell_explanation.ensures ∙ ap explain_numbers m.outcome_is; rule_area_is = m.rule_area_is; work_area_is = m.work_area_is; result_area_is = m.result_area_is; names_is = m.names_is }
