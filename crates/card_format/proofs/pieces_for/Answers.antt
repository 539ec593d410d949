-- The quotient is the definition's.
use native.Mathlib.Omega.{arith}
use Rattle.card_format.specs.Cards.{pieces_for}
use Rattle.card_format.proofs.pieces_for.Goals as goal

pub returns : goal.returns
unfolding pieces_for
returns c = omega arith
