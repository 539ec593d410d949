use mathlib.Core.Path.{◌≡◌}
use mathlib.Core.List.{◌++◌}
use Prim.Native.Nat.{◌-◌, ◌≤◌}
use lib.ListN.{length}
use Rattle.syntax.specs.Limits.{group_limit}
use Rattle.fields_columns.specs.Columns.{names_from, named}
use Rattle.fields_columns.proofs.columns.all_columns.Given as goal

abbrev pub invariant-loop-i : goal.invariant-loop-i
invariant-loop-i l = (l.count ≤ l.i) × (length l.columns ≡ length l.initial.columns) × (names_from l.columns 0 l.count ++ named (names_from l.names l.i (group_limit - l.i)) ≡ named (names_from l.names 0 group_limit))
