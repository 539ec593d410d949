-- `number_reference` meets its contract: the number of the group that was looked up is no larger than there are groups.
use Rattle.std.specs.Prelude.{Option, None, Some, IfSome, unwrap_or}
use Prim.Native.Nat.{ℕ, ◌≤◌}
use native.Mathlib.Omega.{arith}
use lib.ListN.{length-set}
use Rattle.syntax.specs.Limits.{group_limit}
use Rattle.linker.proofs.number_reference.Goals as goal

few : (o : Option ℕ) (groups : ℕ) → IfSome o (λ g. (1 ≤ g) × (g ≤ groups)) → unwrap_or o 0 ≤ groups
few None groups h = omega arith
few (Some g) groups h = h.1

pub put-requires : goal.put-requires
unfolding group_limit
put-requires c = let l = few _ _ c.called.ensures.1 in (simp length-set (omega arith), omega (arith, l, c.unwrap_or-number.ensures))
