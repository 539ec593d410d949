use mathlib.Core.Path.{◌≡◌}
use Prim.Native.Nat.{◌-◌}
use Rattle.fields_columns.specs.Columns.{names_from}
use Rattle.fields_compared.specs.Readings.{agree}
use Rattle.fields_compared.proofs.agree_all.Given as goal

abbrev pub invariant-loop-i : goal.invariant-loop-i
invariant-loop-i l = agree l.names l.line l.standing l.x l.y (names_from l.columns 0 l.count) ≡ agree l.names l.line l.standing l.x l.y (names_from l.columns l.i (l.count - l.i))
