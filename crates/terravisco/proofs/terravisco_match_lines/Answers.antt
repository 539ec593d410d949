-- `terravisco_match_lines` meets its contract: the call's own promise, with its outcome in numbers.
use mathlib.Core.Path.{◌∙◌, ap}
use Rattle.answers.specs.Answers.{batch_numbers}
use Rattle.frame.specs.Inputs.{call_of}
use Rattle.terravisco.specs.Laws.{batch-told}
use Rattle.terravisco.proofs.terravisco_match_lines.Goals as goal

pub tell_batch-requires : goal.tell_batch-requires
tell_batch-requires c = let a = c.args in
    batch-told _ (call_of a.rule.now a.flags a.buffer.now a.budget a.rule_area.now a.work_area.now a.res.now a.names.now) c.match_lines-outcome.ensures.outcome_is

pub returns : goal.returns
returns c = let m = c.match_lines-outcome.ensures in
    record { answer_is = c.tell_batch.ensures ∙ ap batch_numbers m.outcome_is; rule_area_is = m.rule_area_is; work_area_is = m.work_area_is; result_area_is = m.result_area_is; names_is = m.names_is }
