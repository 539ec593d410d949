-- Two stores, one after the other.
use mathlib.Core.Path.{refl}
use Prim.Native.Nat.{◌*◌}
use native.Mathlib.Omega.{arith}
use lib.ListN.{length-set}
use Rattle.syntax.specs.Limits.{group_limit, spans_length}
use Rattle.writer.proofs.Writing.{wrote_none, wrote_one}
use Rattle.brackets.proofs.openings.put_name.Goals as goal

pub bounds-table-at : goal.bounds-table-at
unfolding spans_length group_limit
bounds-table-at c = omega arith

pub bounds-table-at-2 : goal.bounds-table-at-2
unfolding spans_length group_limit
bounds-table-at-2 c = simp length-set (omega arith)

pub returns : goal.returns
unfolding spans_length group_limit
returns c = let a = c.args in
    wrote_one _ _ (wrote_one _ _ (wrote_none a.table.now (2 * a.opened) _) (omega arith) refl (omega arith)) (omega arith) refl (simp length-set (omega arith))
