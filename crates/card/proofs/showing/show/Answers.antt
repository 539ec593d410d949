-- The rule of a card fits into what is lent for it, and its words into the buffer.
use native.Mathlib.Omega.{arith}
use lib.ListN.{length-take}
use Rattle.card_format.specs.CardDemands.{Bytes}
use Rattle.card_text.specs.Room.{rule_room, flags_room, number_room, shown_room}
use Rattle.card.proofs.Fitting.{rule_fits}
use Rattle.card.proofs.showing.show.Goals as goal

pub slice_bounds-rule-end : goal.slice_bounds-rule-end
slice_bounds-rule-end c = let a = c.args in
    let bytes : Bytes a.card.now = λ i. omega (arith, c.type_inv.card i) in
    let fits = rule_fits a.card.now _ _ _ c.read_card.ensures bytes _ c.in-Ok.is in
    omega (arith, fits)

pub slice_bounds-text-end : goal.slice_bounds-text-end
slice_bounds-text-end c = let a = c.args in
    let bytes : Bytes a.card.now = λ i. omega (arith, c.type_inv.card i) in
    let fits = rule_fits a.card.now _ _ _ c.read_card.ensures bytes _ c.in-Ok.is in
    simp length-take (omega (arith, fits))

pub write_words-n-requires : goal.write_words-n-requires
unfolding shown_room rule_room flags_room number_room
write_words-n-requires c = let a = c.args in
    let bytes : Bytes a.card.now = λ i. omega (arith, c.type_inv.card i) in
    let fits = rule_fits a.card.now _ _ _ c.read_card.ensures bytes _ c.in-Ok.is in
    simp length-take (omega (arith, fits))

pub say_refusal-requires : goal.say_refusal-requires
say_refusal-requires c = simp length-take (omega (arith, c.rule_in-n.ensures.2))
