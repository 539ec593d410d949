-- No flags are one text; else the lines of the flags stand one behind another.
use native.Mathlib.Omega.{arith}
use Rattle.card_text.specs.Text.{set_lines}
use Rattle.card_text.specs.Room.{flags_room}
use Rattle.card_text.specs.Laws.Writing.{behind, none-lined, flags-lined}
use Rattle.card_text.proofs.write_flags.Goals as goal

pub append-requires : goal.append-requires
unfolding flags_room
append-requires c = omega arith

pub returns-then-flags-eq0 : goal.returns-then-flags-eq0
returns-then-flags-eq0 c = none-lined c.args.flags c.if-flags-eq0.true c.append.ensures

pub write_flag-s-requires : goal.write_flag-s-requires
unfolding flags_room
write_flag-s-requires c = omega arith

pub write_flag-m-requires : goal.write_flag-m-requires
unfolding flags_room
write_flag-m-requires c = omega (arith, c.write_flag-s.ensures.near)

pub write_flag-i-requires : goal.write_flag-i-requires
unfolding flags_room
write_flag-i-requires c = omega (arith, c.write_flag-s.ensures.near, c.write_flag-m.ensures.near)

pub write_flag-x-requires : goal.write_flag-x-requires
unfolding flags_room
write_flag-x-requires c = omega (arith, c.write_flag-s.ensures.near, c.write_flag-m.ensures.near, c.write_flag-i.ensures.near)

pub write_flag-requires : goal.write_flag-requires
unfolding flags_room
write_flag-requires c = omega (arith, c.write_flag-s.ensures.near, c.write_flag-m.ensures.near, c.write_flag-i.ensures.near, c.write_flag-x.ensures.near)

pub returns : goal.returns
unfolding flags_room set_lines
returns c = let flags = c.args.flags in
    let w = behind (omega arith) (behind (omega arith) (behind (omega arith) (behind (omega arith) c.write_flag-s.ensures c.write_flag-m.ensures) c.write_flag-i.ensures) c.write_flag-x.ensures) c.write_flag.ensures in
    flags-lined flags c.if-flags-eq0.false (rw (c.dot_takes_all.ensures, c.is_multiline.ensures, c.ignores_case.ensures, c.is_extended.ensures, c.in_depot.ensures) at w) (omega arith)
