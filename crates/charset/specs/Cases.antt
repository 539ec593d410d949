-- 02, request c), the flag `i`: "A to Z and a to z match each other".
-- docs/REFERENCE.md, 5.3
use Rattle.std.specs.Prelude.{Bool, cond, ◌&&◌, ◌||◌, ℕ, ◌+◌, ◌-◌}
use Rattle.charset.specs.declared.Named.TheVariants.{Upper, Lower}
use Rattle.charset.specs.Named.{in_named}

-- a letter in its other case, and every other byte itself
unfoldable pub other_case : ℕ → ℕ
other_case b = cond (in_named Upper b) (b + 32) (cond (in_named Lower b) (b - 32) b)

-- whether a set has a byte; one that is folded also has each of its letters in the other case
unfoldable pub folding : Bool → (ℕ → Bool) → ℕ → Bool
folding folded set b = set b || (folded && set (other_case b))
