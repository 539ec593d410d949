-- The tests in the order of the refusals: of the order, of the number, of the padding and of what is trailing; each is a law about records that end at a
-- kind 3.
use mathlib.Core.Bool.{Bool, true, false, not}
use mathlib.Core.Path.{◌≡◌, refl}
use native.Mathlib.Omega.{arith}
use Rattle.semantics.proofs.Laws.Cases.{clash}
use Rattle.card_format.specs.Cards.{pieces_for}
use Rattle.card_records.specs.Laws.Checking.{card-long, not-ordered, misplaced-found, miscounted, room, inside, padding-wrong, trailing-wrong, found}
use Rattle.card_records.proofs.scanning.check_records.Goals as goal

on : (t : Bool) → not t ≡ false → t ≡ true
on true e = refl
on false e = absurd (clash (cc e))

off : (t : Bool) → not t ≡ true → t ≡ false
off true e = absurd (clash (cc e))
off false e = refl

pub two_bytes-size-requires : goal.two_bytes-size-requires
two_bytes-size-requires c = omega (arith, card-long c.requires)

pub returns-then-not-cut : goal.returns-then-not-cut
returns-then-not-cut c = misplaced-found c.requires (not-ordered c.requires (off _ c.if-not-cut.true))

pub overflow_add-need : goal.overflow_add-need
unfolding pieces_for
overflow_add-need c = omega arith

pub returns-then-cut-need : goal.returns-then-cut-need
returns-then-cut-need c = miscounted c.requires _ _ c.two_bytes-size.ensures.0 c.pieces_for-need.ensures c.if-cut-need.true

pub overflow_mul-need : goal.overflow_mul-need
unfolding pieces_for
overflow_mul-need c = omega arith

pub is_padding-requires : goal.is_padding-requires
unfolding pieces_for
is_padding-requires c = let z = c.requires in
    let size = c.two_bytes-size.ensures.0 in
    let need = c.pieces_for-need.ensures in
    (room z _ _ size need, omega arith, inside z _ _ size need (on _ c.if-not-cut.false) c.if-cut-need.false)

pub returns-then-not-is_padding : goal.returns-then-not-is_padding
returns-then-not-is_padding c = padding-wrong c.requires _ _ c.two_bytes-size.ensures.0 c.pieces_for-need.ensures (on _ c.if-not-cut.false) c.if-cut-need.false c.is_padding.result (c.if-not-is_padding.true) c.is_padding.ensures

pub returns-then-card-cut : goal.returns-then-card-cut
returns-then-card-cut c = trailing-wrong c.requires _ _ c.two_bytes-size.ensures.0 c.pieces_for-need.ensures (on _ c.if-not-cut.false) c.if-cut-need.false c.if-card-cut.true

pub returns : goal.returns
returns c = found c.requires _ _ c.two_bytes-size.ensures.0 c.pieces_for-need.ensures (on _ c.if-not-cut.false) c.if-cut-need.false c.is_padding.result (c.if-not-is_padding.false) c.is_padding.ensures c.if-card-cut.false
