-- `tell_explanation` meets its contract: each case of the outcome has the numbers of its own law, and a refusal's place fits into 32 bits.
use mathlib.Core.Path.{ap, ◌∙◌}
use Rattle.std.specs.Prelude.{Ok}
use native.Mathlib.Omega.{arith}
use Rattle.syntax.specs.Limits.{rule_limit}
use Rattle.answers.specs.Laws.{of-fitting, of-unfitting, of-ended, of-declined, explain-place}
use Rattle.answers.proofs.explanations.tell_explanation.Goals as goal

pub overflow_cast-f : goal.overflow_cast-f
unfolding rule_limit
overflow_cast-f c = omega (arith, explain-place _ _ c.in-Err.is c.requires)

pub returns-in-Ok-Matched : goal.returns-in-Ok-Matched
returns-in-Ok-Matched c = c.tell_no_failure.ensures ∙ of-fitting _ _ (c.in-Ok-Matched.is ∙ ap Ok (rw c.in-Ok-Matched.is at c.in-Ok-Matched.field-0-is))

pub returns-in-Ok-NotMatched : goal.returns-in-Ok-NotMatched
returns-in-Ok-NotMatched c = c.tell_failures.ensures ∙ of-unfitting _ _ _ _ (c.in-Ok-NotMatched.is ∙ ap Ok (rw c.in-Ok-NotMatched.is at c.in-Ok-NotMatched.field-0-is))

pub returns-in-Ok-Exhausted : goal.returns-in-Ok-Exhausted
returns-in-Ok-Exhausted c = c.tell_no_failure-in-Ok-Exhausted.ensures ∙ of-ended _ _ _ (c.in-Ok-Exhausted.is ∙ ap Ok (rw c.in-Ok-Exhausted.is at c.in-Ok-Exhausted.field-0-is))

pub returns-in-Err : goal.returns-in-Err
returns-in-Err c = c.tell_no_failure-in-Err.ensures ∙ of-declined _ _ _ c.in-Err.is c.from-number.ensures
