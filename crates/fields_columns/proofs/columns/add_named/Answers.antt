-- By the test.
use mathlib.Core.Path.{sym}
use mathlib.Core.List.{append-nil}
use native.Mathlib.Omega.{arith}
use Rattle.fields_columns.specs.Columns.{names_from}
use Rattle.fields_columns.specs.Laws.Columns.{named_none, named-one}
use Rattle.fields_columns.proofs.columns.add_named.Goals as goal

pub returns-then-name-eq0 : goal.returns-then-name-eq0
returns-then-name-eq0 c = let a = c.args in (omega arith, rw (named_none a.name.now c.if-name-eq0.true) (sym (append-nil (names_from a.columns.now 0 a.count))))

pub returns : goal.returns
returns c = let a = c.args in (omega (arith, c.add_column.ensures.0), rw (named-one a.name.now c.if-name-eq0.false) c.add_column.ensures.1)
