-- Text written into a lent slice.
use Rattle.std.specs.Prelude.{◌≡◌, List, ◌++◌, ℕ, ◌+◌, length, take, drop}

-- a text stands from a position on, and all else is as it was
unfoldable pub written : List ℕ → ℕ → List ℕ → List ℕ
written out at text = take at out ++ (text ++ drop (at + length text) out)

-- The slice `old` has become `new`, with a text written at a position; `end` is the position behind it.
pub record Wrote (old : List ℕ) (at : ℕ) (text new : List ℕ) (end : ℕ) : Type 0 where
  pub ends : end ≡ at + length text
  pub holds : new ≡ written old at text
