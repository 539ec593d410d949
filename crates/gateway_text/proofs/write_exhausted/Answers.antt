-- The parts of the line, one behind another.
use native.Mathlib.Omega.{arith}
use Rattle.text.specs.Laws.Numbers.{ten_digits}
use Rattle.gateway_text.specs.Limits.{answer_room}
use Rattle.gateway_text.specs.Laws.Lines.{exhausted_wrote}
use Rattle.text.specs.Lines.{newline}
use Rattle.gateway_text.proofs.write_exhausted.Goals as goal

pub append-letter-requires : goal.append-letter-requires
unfolding answer_room
append-letter-requires c = omega arith

pub append_number-number-requires : goal.append_number-number-requires
unfolding answer_room
append_number-number-requires c = omega (arith, ten_digits c.args.start c.ranges.start.fits)

pub append_byte-requires : goal.append_byte-requires
unfolding answer_room
append_byte-requires c = omega (arith, ten_digits c.args.start c.ranges.start.fits)

pub returns : goal.returns
unfolding newline
returns c = exhausted_wrote c.requires c.args.start c.ranges.start.fits c.append-letter.ensures c.append_number-number.ensures c.append_byte.ensures
