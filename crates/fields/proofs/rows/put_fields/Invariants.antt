use Rattle.fields.proofs.Falling.{left_of}
use Prim.Native.Nat.{◌≤◌}
use Rattle.fields.proofs.rows.put_fields.Given as goal

abbrev pub invariant-loop-p : goal.invariant-loop-p
invariant-loop-p l = l.p.column ≤ l.table.count

abbrev pub decreases-loop-p : goal.decreases-loop-p
decreases-loop-p l = left_of 18446744073709551616 l.table.count l.p.column l.p.taken
