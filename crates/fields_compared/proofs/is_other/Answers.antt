-- By cases on the tests, in the order of the definition.
use mathlib.Core.Path.{sym, ap, ◌∙◌}
use native.Mathlib.Omega.{arith}
use mathlib.Core.Bool.{not}
use Rattle.syntax.specs.Limits.{group_limit, spans_length, row_length}
use Rattle.fields_columns.specs.Columns.{names_from}
use Rattle.fields_compared.specs.Laws.Comparing.{other-start, other-end, same-stretch}
use Rattle.fields_compared.proofs.is_other.Goals as goal

pub bounds-y-0 : goal.bounds-y-0
unfolding row_length spans_length group_limit
bounds-y-0 c = omega arith

pub bounds-x-0 : goal.bounds-x-0
unfolding row_length spans_length group_limit
bounds-x-0 c = omega arith

pub returns-then-y-x : goal.returns-then-y-x
returns-then-y-x c = let a = c.args in sym (other-start a.names.now a.line.now a.standing.now (names_from a.columns.now 0 a.count) a.x.now a.y.now c.if-y-x.true)

pub bounds-y-1 : goal.bounds-y-1
unfolding row_length spans_length group_limit
bounds-y-1 c = omega arith

pub bounds-x-1 : goal.bounds-x-1
unfolding row_length spans_length group_limit
bounds-x-1 c = omega arith

pub returns-then-y-x-2 : goal.returns-then-y-x-2
returns-then-y-x-2 c = let a = c.args in sym (other-end a.names.now a.line.now a.standing.now (names_from a.columns.now 0 a.count) a.x.now a.y.now c.if-y-x.false c.if-y-x-2.true)

pub returns : goal.returns
returns c = let a = c.args in ap not c.agree_all.ensures ∙ sym (same-stretch a.names.now a.line.now a.standing.now (names_from a.columns.now 0 a.count) a.x.now a.y.now c.if-y-x.false c.if-y-x-2.false)
