-- The rule is held, so that it can be asked; the areas are as long as their arrays.
use native.Mathlib.Omega.{arith}
use Rattle.syntax.specs.Limits.{budget_limit, rule_area_need, work_per_step, group_limit, spans_length, row_length, name_limit, name_entry, name_index_need}
use Rattle.page_lines.specs.Laws.Holding.{holds-lent}
use Rattle.fields.proofs.lines.tell_line.Goals as goal

pub ask-word-requires : goal.ask-word-requires
unfolding budget_limit rule_area_need work_per_step group_limit spans_length row_length name_index_need name_entry name_limit
ask-word-requires c = record {
  lent = holds-lent _ c.requires (omega arith) (omega arith);
  columned = record { few = omega (arith, c.args.table.few); fits = omega arith };
  row_len = omega arith;
}
