use mathlib.Core.Path.{◌≡◌}
use Prim.Native.Nat.{◌*◌, ◌-◌}
use Rattle.syntax.specs.Limits.{row_length}
use Rattle.index.specs.Rows.{rows_at}
use Rattle.fields_columns.specs.Columns.{names_from}
use Rattle.fields_compared.specs.Readings.{is_ambiguous}
use Rattle.fields_compared.proofs.is_ambiguous.Given as goal

abbrev pub invariant-loop-i : goal.invariant-loop-i
invariant-loop-i l = is_ambiguous l.names l.line l.standing (names_from l.columns 0 l.count) l.x (rows_at l.results 0 l.rows) ≡ is_ambiguous l.names l.line l.standing (names_from l.columns 0 l.count) l.x (rows_at l.results (l.i * row_length) (l.rows - l.i))
