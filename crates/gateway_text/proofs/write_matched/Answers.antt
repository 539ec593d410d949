-- The parts of the line, one behind another.
use native.Mathlib.Omega.{arith}
use Rattle.text.specs.Laws.Numbers.{ten_digits}
use Rattle.gateway_text.specs.Limits.{span_room, answer_room}
use Rattle.gateway_text.specs.Laws.Lines.{matched_wrote}
use lib.ListN.{get_or}
use Rattle.text.specs.Lines.{newline}
use Rattle.syntax.specs.Limits.{row_length, group_limit}
use Rattle.gateway_text.proofs.write_matched.Goals as goal

pub append-letter-requires : goal.append-letter-requires
unfolding answer_room
append-letter-requires c = omega arith

pub bounds-row-0 : goal.bounds-row-0
unfolding row_length
bounds-row-0 c = omega arith

pub overflow_cast-row : goal.overflow_cast-row
overflow_cast-row c = omega (arith, c.type_inv.row 0)

pub append_number-start-requires : goal.append_number-start-requires
unfolding answer_room
append_number-start-requires c = omega (arith, ten_digits (get_or c.args.row.now 0 0) (c.type_inv.row 0).fits)

pub append_byte-blank-requires : goal.append_byte-blank-requires
unfolding answer_room
append_byte-blank-requires c = omega (arith, ten_digits (get_or c.args.row.now 0 0) (c.type_inv.row 0).fits)

pub bounds-row-1 : goal.bounds-row-1
unfolding row_length
bounds-row-1 c = omega arith

pub overflow_cast-row-2 : goal.overflow_cast-row-2
overflow_cast-row-2 c = omega (arith, c.type_inv.row 1)

pub append_number-stop-requires : goal.append_number-stop-requires
unfolding answer_room
append_number-stop-requires c = omega (arith, ten_digits (get_or c.args.row.now 0 0) (c.type_inv.row 0).fits, ten_digits (get_or c.args.row.now 1 0) (c.type_inv.row 1).fits)

pub write_spans-spans-requires : goal.write_spans-spans-requires
unfolding answer_room span_room group_limit
write_spans-spans-requires c = (c.requires.0, c.requires.1, omega (arith, ten_digits (get_or c.args.row.now 0 0) (c.type_inv.row 0).fits, ten_digits (get_or c.args.row.now 1 0) (c.type_inv.row 1).fits))

pub append_byte-requires : goal.append_byte-requires
unfolding answer_room span_room group_limit
append_byte-requires c = omega (arith, ten_digits (get_or c.args.row.now 0 0) (c.type_inv.row 0).fits, ten_digits (get_or c.args.row.now 1 0) (c.type_inv.row 1).fits)

pub returns : goal.returns
unfolding newline
returns c = let x = c.args.row.now in
    matched_wrote
    c.requires.2
    c.args.groups
    x
    c.requires.1
    (c.type_inv.row 0).fits
    (c.type_inv.row 1).fits
    c.append-letter.ensures
    c.append_number-start.ensures
    c.append_byte-blank.ensures
    c.append_number-stop.ensures
    c.write_spans-spans.ensures.0
    c.write_spans-spans.ensures.1
    c.append_byte.ensures
