-- Three texts, one behind another.
use native.Mathlib.Omega.{arith}
use Rattle.syntax.specs.Limits.{group_limit}
use Rattle.text.specs.Lines.{newline}
use Rattle.fields_columns.specs.Promises.{head_room}
use Rattle.fields_columns.specs.Laws.Heading.{headed}
use Rattle.fields_columns.proofs.heading.write_head.Goals as goal

pub append-first-requires : goal.append-first-requires
unfolding head_room
append-first-requires c = omega arith

pub write_names-last-requires : goal.write_names-last-requires
unfolding head_room group_limit
write_names-last-requires c = record {
  columned = c.requires.columned;
  count_in_bounds = omega (arith, c.append-first.ensures.ends, c.requires.columned.few);
}

pub append_byte-requires : goal.append_byte-requires
unfolding head_room group_limit
append_byte-requires c = omega (arith, c.append-first.ensures.ends, c.write_names-last.ensures.near, c.requires.columned.few)

pub returns : goal.returns
unfolding newline group_limit
returns c = let a = c.args in headed a.columns.now a.count a.out.now a.at c.requires.columned.few c.requires.head_room_in_bounds c.append-first.ensures c.write_names-last.ensures c.append_byte.ensures
