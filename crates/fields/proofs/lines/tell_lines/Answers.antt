-- The head of the table fits the buffer.
use native.Mathlib.Omega.{arith}
use Rattle.syntax.specs.Limits.{group_limit, name_limit, name_entry, name_index_need}
use Rattle.fields_columns.specs.Promises.{head_room}
use Rattle.fields.proofs.lines.tell_lines.Goals as goal

pub write_head-at-requires : goal.write_head-at-requires
unfolding group_limit name_index_need name_entry name_limit head_room
write_head-at-requires c = record {
  columned = record { few = omega (arith, c.args.table.few); fits = omega arith };
  head_room_in_bounds = omega arith;
}
