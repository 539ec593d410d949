-- Parts of what was read.
-- docs/REFERENCE.md, 19
use Rattle.std.specs.Prelude.{ℕ, ◌≤◌}

-- the bytes from `at` to `end` are bytes of a piece of that size
pub record Within (size at end : ℕ) : Type 0 where
  pub ordered : at ≤ end
  pub fits : end ≤ size
