-- Four parts, one behind another.
use native.Mathlib.Omega.{arith}
use Rattle.card_text.specs.Text.{shown}
use Rattle.card_text.specs.Room.{shown_room}
use Rattle.card_text.specs.Laws.Writing.{behind}
use Rattle.card_text.proofs.write_words.Goals as goal

pub write_rule-first-requires : goal.write_rule-first-requires
unfolding shown_room
write_rule-first-requires c = omega arith

pub write_flags-second-requires : goal.write_flags-second-requires
unfolding shown_room
write_flags-second-requires c = omega (arith, c.write_rule-first.ensures.near)

pub write_number-third-requires : goal.write_number-third-requires
unfolding shown_room
write_number-third-requires c = omega (arith, c.write_rule-first.ensures.near, c.write_flags-second.ensures.near)

pub write_number-requires : goal.write_number-requires
unfolding shown_room
write_number-requires c = omega (arith, c.write_rule-first.ensures.near, c.write_flags-second.ensures.near, c.write_number-third.ensures.near)

pub returns : goal.returns
unfolding shown_room shown
returns c = behind (omega arith) (behind (omega arith) (behind (omega arith) c.write_rule-first.ensures c.write_flags-second.ensures) c.write_number-third.ensures) c.write_number.ensures
