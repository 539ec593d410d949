-- A measure for two numbers, of which the second counts up below a bound and may begin again when the first has gone on.
use mathlib.Core.Path.{◌≡◌}
use Prim.Native.Nat.{ℕ, suc, ◌+◌, ◌-◌, ◌*◌, ◌≤◌, ◌<◌}
use native.Mathlib.Nat.{mul-le-mul_right, suc-mul}
use native.Mathlib.Omega.{arith}

-- what is left of both
abbrev pub left_of : (bound last first second : ℕ) → ℕ
left_of bound last first second = (last - first) * bound + (bound - second)

less : (a b bound second next : ℕ) → a + bound ≤ b → second < bound → a + (bound - next) < b + (bound - second)
less a b bound second next h k = omega arith

pub first-falls : (bound last first second first' second' : ℕ) → first < first' → first' ≤ last → second < bound → left_of bound last first' second' < left_of bound last first second
first-falls bound last first second first' second' h k s =
    less ((last - first') * bound) ((last - first) * bound) bound second second' (omega (arith, mul-le-mul_right {m = suc (last - first')} {n = last - first} bound (omega arith), suc-mul (last - first') bound)) s

same_first : (a bound second second' : ℕ) → second < second' → second < bound → a + (bound - second') < a + (bound - second)
same_first a bound second second' h s = omega arith

pub second-falls : (bound last first second first' second' : ℕ) → first' ≡ first → second < second' → second < bound → left_of bound last first' second' < left_of bound last first second
second-falls bound last first second first' second' e h s = rw e (same_first ((last - first) * bound) bound second second' h s)
