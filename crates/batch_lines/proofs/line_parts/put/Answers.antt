-- `put` meets its contract: four numbers written one after another into four are all of them.
use mathlib.Core.Path.{◌≡◌, refl, ◌∙◌}
use mathlib.Core.List.{List, [], ◌∷◌}
use Prim.Native.Nat.{ℕ}
use native.Mathlib.Omega.{arith}
use lib.ListN.{length, set}
use Rattle.batch_lines.proofs.line_parts.put.Goals as goal

all-four : (l : List ℕ) (a b x y : ℕ) → length l ≡ 4 → set (set (set (set l 0 a) 1 b) 2 x) 3 y ≡ a ∷ b ∷ x ∷ y ∷ []
all-four [] a b x y h = absurd (omega arith)
all-four (p ∷ []) a b x y h = absurd (omega arith)
all-four (p ∷ q ∷ []) a b x y h = absurd (omega arith)
all-four (p ∷ q ∷ r ∷ []) a b x y h = absurd (omega arith)
all-four (p ∷ q ∷ r ∷ s ∷ []) a b x y h = refl
all-four (p ∷ q ∷ r ∷ s ∷ t ∷ l) a b x y h = absurd (omega arith)

pub returns : goal.returns
returns c = rw (c.change-4.ensures, c.change-3.ensures, c.change-2.ensures, c.change.ensures)
    (all-four c.args.numbers.now c.args.kind c.args.which c.low_half.result c.high_half.result c.requires ∙ cc (c.low_half.ensures, c.high_half.ensures))
