-- `next_start` meets its contract: where it stays no start is passed, and else it tells what `pass_starts` tells.
use mathlib.Core.Path.{◌≡◌, refl}
use mathlib.Core.Logic.{inl}
use Prim.Native.Nat.{ℕ, ◌+◌, ◌-◌, ◌*◌}
use native.Mathlib.Omega.{arith}
use Rattle.skipping.proofs.next_start.Goals as goal

none_passed : (steps begin cost : ℕ) → steps ≡ steps + (begin - begin) * cost
none_passed steps begin cost = let z : begin - begin ≡ 0 = omega arith in rw z (omega arith)

pub returns-then-contains : goal.returns-then-contains
returns-then-contains c = let a = c.args in
    record {
      passed = record { on = omega arith; inside = inl refl; none = λ _. refl; missed = λ i l m. absurd (omega arith) };
      steps_value = none_passed a.steps a.begin a.cost;
    }
