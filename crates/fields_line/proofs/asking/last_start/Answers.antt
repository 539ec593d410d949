-- With no row it is the one that is given, else the first number of the last row.
use mathlib.Core.Path.{sym}
use native.Mathlib.Omega.{arith}
use Rattle.syntax.specs.Limits.{group_limit, spans_length, row_length}
use Rattle.fields_line.specs.Laws.Listings.{last_none, last_some}
use Rattle.fields_line.proofs.asking.last_start.Goals as goal

pub returns-then-rows-eq0 : goal.returns-then-rows-eq0
returns-then-rows-eq0 c = let a = c.args in sym (last_none a.start a.results.now 0 a.rows c.if-rows-eq0.true)

pub overflow_mul-result : goal.overflow_mul-result
unfolding row_length spans_length group_limit
overflow_mul-result c = omega arith

pub offset_bounds-results-rows : goal.offset_bounds-results-rows
unfolding row_length spans_length group_limit
offset_bounds-results-rows c = omega arith

pub bounds-results-rows : goal.bounds-results-rows
unfolding row_length spans_length group_limit
bounds-results-rows c = omega arith

pub returns : goal.returns
unfolding row_length spans_length group_limit
returns c = let a = c.args in last_some a.start a.results.now a.rows c.if-rows-eq0.false
