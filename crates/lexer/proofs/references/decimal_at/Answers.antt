-- `decimal_at` meets its contract: no digit, or some.
use mathlib.Core.Path.{refl}
use Rattle.lexer.proofs.ReferenceCases.{number-none, number-some}
use Rattle.lexer.proofs.references.decimal_at.Goals as goal

pub returns-then-number-from : goal.returns-then-number-from
returns-then-number-from c = λ f k. rw c.at.ensures (number-none f _ _ _ _ c.number_at-number.ensures c.if-number-from.true)

pub returns : goal.returns
returns c = λ f k. number-some f _ _ _ _ c.number_at-number.ensures c.if-number-from.false k _ refl
