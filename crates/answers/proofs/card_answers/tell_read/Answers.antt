-- `tell_read` meets its contract: each case of the outcome has the numbers of its own law, and a refusal's place fits into 32 bits.
use native.Mathlib.Omega.{arith}
use Rattle.syntax.specs.Limits.{rule_limit}
use Rattle.answers.specs.CardLaws.{read-place, of-held, of-unread}
use Rattle.answers.proofs.card_answers.tell_read.Goals as goal

pub overflow_cast-answer : goal.overflow_cast-answer
unfolding rule_limit
overflow_cast-answer c = omega (arith, read-place _ _ c.in-Err.is c.requires)

pub returns-in-Ok : goal.returns-in-Ok
returns-in-Ok c = of-held _ _ _ c.in-Ok.is c.low_half-length.ensures

pub returns-in-Err : goal.returns-in-Err
returns-in-Err c = of-unread _ _ _ c.in-Err.is c.from-number.ensures
