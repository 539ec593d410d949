-- Bytes that are passed over: none of them is in the set. Assumes nothing.
use mathlib.Core.Path.{◌≡◌, refl, sym, ◌∙◌, subst}
use mathlib.Core.List.{List}
use mathlib.Core.Bool.{Bool, true, false}
use Prim.Native.Nat.{ℕ, ◌+◌, ◌≤◌, ◌<◌}
use native.Mathlib.Omega.{arith}
use lib.ListN.{length, get_or, drop}
use lib.Dec.{ltb}
use borrow.Author.Tests.{ltb-true, ltb-false}
use Rattle.charset.specs.Class.{has}
use Rattle.machine.specs.Moves.{takes}
use Rattle.machine.specs.Laws.Extent.{takes-here}
use Rattle.skipping.specs.Passing.{Misses}

module _ (set sub : List ℕ) where
  pub misses-none : (a b : ℕ) → b ≤ a → Misses set sub a b
  misses-none a b h i l m = absurd (omega arith)

  pub misses-then : (a b c : ℕ) → Misses set sub a b → Misses set sub b c → Misses set sub a c
  misses-then a b c x y i l m = by (ltb i b) refl
    where
      by : (t : Bool) → ltb i b ≡ t → takes sub (has set) i ≡ false
      by true e = x i l (ltb-true i b e)
      by false e = y i (ltb-false i b e) m

  -- the byte at b is looked at, and is not in the set
  pub misses-next : (a b c : ℕ) (r : Bool) → Misses set sub a b → b < length sub → r ≡ has (drop 0 set) (get_or sub b 0) → r ≡ false → c ≡ b + 1 → Misses set sub a c
  misses-next a b c r x h e f z = misses-then a b c x one
    where
      one : Misses set sub b c
      one i l m = let y : b ≡ i = omega arith in subst (λ (k : ℕ). takes sub (has set) k ≡ false) y (takes-here sub (has set) b h ∙ sym e ∙ f)
