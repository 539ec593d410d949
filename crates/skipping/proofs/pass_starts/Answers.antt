-- `pass_starts` meets its contract: what `skip_starts` passed over, and one product.
use mathlib.Core.Path.{◌≡◌}
use mathlib.Core.List.{List}
use mathlib.Core.Logic.{◌⊎◌, inl, inr}
use mathlib.Core.Bool.{Bool}
use Prim.Native.Nat.{ℕ, ◌-◌, ◌*◌, ◌^◌, ◌≤◌, ◌<◌}
use native.Mathlib.Nat.{le_trans, mul-le-mul_right}
use native.Mathlib.Omega.{arith}
use lib.ListN.{length}
use Rattle.syntax.specs.Limits.{subject_limit}
use Rattle.skipping.specs.Passing.{Passed}
use Rattle.skipping.proofs.pass_starts.Goals as goal

-- at most 65,536 starts of less than 2 ^ 32 steps
product : {set : List ℕ} {any : Bool} {sub : List ℕ} (cost begin from : ℕ) → Passed set any sub cost begin from → length sub ≤ subject_limit → cost < 2 ^ 32 → (from - begin) * cost ≤ 65536 * 2 ^ 32
unfolding subject_limit
product {set} {any} {sub} cost begin from p l h = le_trans (mul-le-mul_right cost (few p.inside)) (omega arith)
  where
    few : (from ≡ begin) ⊎ (from ≤ length sub) → from - begin ≤ 65536
    few (inl e) = omega arith
    few (inr e) = omega arith

pub skip_starts-from-requires : goal.skip_starts-from-requires
unfolding subject_limit
skip_starts-from-requires c = (c.requires.0, omega (arith, c.requires.1))

pub overflow_mul-result : goal.overflow_mul-result
overflow_mul-result c = omega (arith, product _ _ _ c.skip_starts-from.ensures c.requires.1 (omega arith))

pub overflow_add-result : goal.overflow_add-result
overflow_add-result c = omega (arith, c.requires.2, product _ _ _ c.skip_starts-from.ensures c.requires.1 (omega arith))
