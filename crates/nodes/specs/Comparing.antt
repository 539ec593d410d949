-- What comparing the bytes of a span with those at a position tells, within the steps that are left.
-- docs/REFERENCE.md, 13.5
use Rattle.std.specs.Prelude.{◌≡◌, List, Bool, true, false, ◌&&◌, ℕ, ◌+◌, ◌≤◌, ◌<◌, length, leb}
use Rattle.semantics.specs.Items.{same_at, compared}
use Rattle.nodes.specs.declared.references.Compared.{Compared}
use Rattle.nodes.specs.declared.references.Compared.TheVariants.{Same, Unlike, TooMany}

-- whether the n bytes at a stand at b too
abbrev pub stands_again : Bool → List ℕ → (n a b : ℕ) → Bool
stands_again folded sub n a b = leb (b + n) (length sub) && same_at folded sub n a b

-- A reference has its own step besides, so that fewer bytes are paid for than there are steps left.
abbrev pub ComparedAs : Bool → List ℕ → (n a b left : ℕ) → Compared → Type 0
ComparedAs folded sub n a b left Same = (stands_again folded sub n a b ≡ true) × (compared folded sub n a b ≡ n) × (n < left)
ComparedAs folded sub n a b left (Unlike k) = (stands_again folded sub n a b ≡ false) × (compared folded sub n a b ≡ k) × (k < left)
ComparedAs folded sub n a b left TooMany = left ≤ compared folded sub n a b
