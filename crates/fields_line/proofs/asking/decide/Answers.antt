-- By cases on the tests, in the order of the definition.
use mathlib.Core.Path.{sym, ◌∙◌}
use native.Mathlib.Omega.{arith}
use Rattle.syntax.specs.Limits.{group_limit, spans_length, row_length}
use Rattle.fields_line.specs.Promises.{verdict_by}
use Rattle.fields_line.proofs.asking.decide.Goals as goal

pub is_ambiguous-requires : goal.is_ambiguous-requires
is_ambiguous-requires c = record {
  columned = c.requires.columned;
  x_len = (c.requires.row_len.0, rw c.rows_of-rows.ensures c.requires.row_len.1);
}

pub returns-then-is_ambiguous : goal.returns-then-is_ambiguous
unfolding verdict_by
returns-then-is_ambiguous c = rw (sym (rw c.rows_of-rows.ensures at c.is_ambiguous.ensures) ∙ c.if-is_ambiguous.true)

pub bounds-row-0 : goal.bounds-row-0
unfolding row_length spans_length group_limit
bounds-row-0 c = omega arith

pub is_cut-requires : goal.is_cut-requires
is_cut-requires c = c.requires.row_len.1

pub returns-then-is_cut : goal.returns-then-is_cut
unfolding verdict_by
returns-then-is_cut c = rw (sym (rw c.rows_of-rows.ensures at c.is_ambiguous.ensures) ∙ c.if-is_ambiguous.false, sym c.is_cut.ensures ∙ c.if-is_cut.true)

pub returns : goal.returns
unfolding verdict_by
returns c = rw (sym (rw c.rows_of-rows.ensures at c.is_ambiguous.ensures) ∙ c.if-is_ambiguous.false, sym c.is_cut.ensures ∙ c.if-is_cut.false)
