-- `==` on two slices of numbers tells what `same_bytes` does.
use mathlib.Core.Path.{◌≡◌, refl, ap}
use mathlib.Core.Bool.{Bool, ◌&&◌}
use mathlib.Core.List.{List, [], ◌∷◌}
use Prim.Native.Nat.{ℕ}
use lib.Dec.{eqb}
use lib.Pointwise.{pointwise}
use Rattle.syntax.specs.Sets.{same_bytes}

pub same-pointwise : (x y : List ℕ) → pointwise eqb x y ≡ same_bytes x y
unfolding same_bytes
same-pointwise [] [] = refl
same-pointwise [] (c ∷ cs) = refl
same-pointwise (b ∷ bs) [] = refl
same-pointwise (b ∷ bs) (c ∷ cs) = ap (λ (r : Bool). eqb b c && r) (same-pointwise bs cs)
