-- `tell_no_failure` meets its contract: both failures that are told are nowhere.
use mathlib.Core.Path.{◌∙◌, ap}
use Rattle.semantics.specs.Explanations.{Failure}
use Rattle.answers.specs.Answers.{numbers, failure_numbers}
use mathlib.Core.List.{◌++◌}
use Rattle.answers.proofs.explanations.tell_no_failure.Goals as goal

pub returns : goal.returns
returns c = let a = c.args in
    c.tell_failures.ensures ∙ ap (λ (x : Failure). numbers a.kind a.which a.place a.steps 0 ++ failure_numbers x x) c.nowhere-none.ensures
