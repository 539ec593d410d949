-- A line that comes in pieces, of which a part is held at the front of a slice.
use Rattle.std.specs.Prelude.{◌≡◌, List, ◌++◌, ℕ, ◌≤◌, length, take, drop}

-- The slice `old`, which held the first `have` bytes, has become `new`: a piece was put behind them, cut at the limit, and `now` bytes are held.
pub record Gathered (limit : ℕ) (old : List ℕ) (have : ℕ) (piece new : List ℕ) (now : ℕ) : Type 0 where
  pub holds : take now new ≡ take limit (take have old ++ piece)
  pub others : drop now new ≡ drop now old
  pub fits : now ≤ limit
  pub size : length new ≡ length old
