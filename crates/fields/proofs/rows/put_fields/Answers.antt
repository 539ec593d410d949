-- The loop's invariant: the column is one of the table, or behind the last. Each part goes on to a later column, or takes more bytes of this one, of which there are fewer than 2^64.
use Rattle.fields.proofs.Falling.{first-falls, second-falls}
use native.Mathlib.Omega.{arith}
use mathlib.Core.Logic.{⊎_elim}
use Rattle.syntax.specs.Limits.{group_limit, name_limit, name_entry, name_index_need}
use Rattle.fields_row.specs.Promises.{chunk, part_room}
use Rattle.fields.proofs.rows.put_fields.Goals as goal

pub write_part-p-requires : goal.write_part-p-requires
unfolding group_limit name_index_need name_entry name_limit part_room chunk
write_part-p-requires c = record {
  columned = record { few = omega arith; fits = omega arith };
  column_lt_count = (omega arith, omega arith);
}

pub loop-p-smaller : goal.loop-p-smaller
loop-p-smaller c = ⊎_elim (λ w. first-falls 18446744073709551616 _ _ _ _ _ w.0 w.1 (omega arith)) (λ w. second-falls 18446744073709551616 _ _ _ _ _ w.0 w.1 (omega arith)) c.write_part-p.ensures.onward

pub loop-p-preserved : goal.loop-p-preserved
loop-p-preserved c = ⊎_elim (λ w. omega arith) (λ w. omega arith) c.write_part-p.ensures.onward
