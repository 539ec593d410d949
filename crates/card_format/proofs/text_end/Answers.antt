-- The sum is the definition's; no length of two bytes makes it too large.
use native.Mathlib.Omega.{arith}
use Rattle.card_format.specs.Cards.{pieces_for}
use Rattle.card_format.specs.Places.{text_end}
use Rattle.card_format.proofs.text_end.Goals as goal

pub overflow_mul-result : goal.overflow_mul-result
unfolding pieces_for
overflow_mul-result c = omega arith

pub overflow_add-result : goal.overflow_add-result
unfolding pieces_for
overflow_add-result c = omega arith

pub returns : goal.returns
unfolding text_end
returns c = omega arith
