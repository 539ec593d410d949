-- Three parts; a number of 32 bits has at most ten digits.
use native.Mathlib.Omega.{arith}
use Rattle.text.specs.Lines.{newline}
use Rattle.text.specs.Laws.Numbers.{ten_digits}
use Rattle.card_text.specs.Room.{number_room}
use Rattle.card_text.specs.Laws.Writing.{numbered}
use Rattle.card_text.proofs.write_number.Goals as goal

pub append-first-requires : goal.append-first-requires
unfolding number_room
append-first-requires c = omega arith

pub append_number-last-requires : goal.append_number-last-requires
unfolding number_room
append_number-last-requires c = omega (arith, ten_digits c.args.n (omega arith), c.append-first.ensures.ends)

pub append_byte-requires : goal.append_byte-requires
unfolding number_room
append_byte-requires c = omega (arith, ten_digits c.args.n (omega arith), c.append-first.ensures.ends, c.append_number-last.ensures.ends)

pub returns : goal.returns
unfolding newline
returns c = numbered c.args.label.now c.args.n (omega arith) (omega arith) c.requires c.append-first.ensures c.append_number-last.ensures c.append_byte.ensures
