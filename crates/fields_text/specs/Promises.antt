-- What the functions promise.
-- docs/REFERENCE.md, 19.3
use Rattle.std.specs.Prelude.{List, ℕ, ◌+◌, ◌≤◌}
use Rattle.text.specs.Writing.{Wrote}

-- a text was written, of so many bytes at most
pub record WroteUpTo (most : ℕ) (old : List ℕ) (at : ℕ) (text new : List ℕ) (end : ℕ) : Type 0 where
  pub wrote : Wrote old at text new end
  pub near : end ≤ at + most
