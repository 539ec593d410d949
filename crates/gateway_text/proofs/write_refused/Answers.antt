-- The parts of the line, one behind another.
use native.Mathlib.Omega.{arith}
use Rattle.text.specs.Laws.Numbers.{ten_digits, twenty_digits}
use Rattle.gateway_text.specs.Limits.{answer_room}
use Rattle.gateway_text.specs.Laws.Lines.{refusal_wrote}
use Rattle.text.specs.Lines.{newline}
use Rattle.gateway_text.proofs.write_refused.Goals as goal

pub append-letter-requires : goal.append-letter-requires
unfolding answer_room
append-letter-requires c = omega arith

pub append_number-first-requires : goal.append_number-first-requires
unfolding answer_room
append_number-first-requires c = omega (arith, ten_digits c.args.number c.ranges.number.fits)

pub append_byte-blank-requires : goal.append_byte-blank-requires
unfolding answer_room
append_byte-blank-requires c = omega (arith, ten_digits c.args.number c.ranges.number.fits)

pub append_number-second-requires : goal.append_number-second-requires
unfolding answer_room
append_number-second-requires c = omega (arith, ten_digits c.args.number c.ranges.number.fits, twenty_digits c.args.place c.ranges.place.fits)

pub append_byte-requires : goal.append_byte-requires
unfolding answer_room
append_byte-requires c = omega (arith, ten_digits c.args.number c.ranges.number.fits, twenty_digits c.args.place c.ranges.place.fits)

pub returns : goal.returns
unfolding newline
returns c = refusal_wrote
    c.requires
    c.args.number
    c.args.place
    c.ranges.number.fits
    c.ranges.place.fits
    c.append-letter.ensures
    c.append_number-first.ensures
    c.append_byte-blank.ensures
    c.append_number-second.ensures
    c.append_byte.ensures
