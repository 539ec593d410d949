-- Rows that stand in the result area: the area keeps its size, and one more is written behind them.
use Rattle.std.specs.Prelude.{◌≡◌, List, [], ◌∷◌, ◌++◌, ℕ, ◌+◌, ◌*◌, ◌/◌, ◌≤◌, length, take, drop}
use Rattle.std.proofs.Math.Path.{ap}
use Rattle.std.proofs.Common.{◌∙◌, div-mul-le_self, arith, length-append}
use Rattle.syntax.specs.Limits.{row_length}
use Rattle.semantics.specs.States.{Row}
use Rattle.semantics.specs.Calls.{joined, room}
use Rattle.noting.specs.Noting.{Holds}
use Rattle.frame.specs.Laws.Areas.{over-length}
use Rattle.index.specs.Laws.Rows.{whole_append}
use Rattle.noting.specs.Laws.Rows.{joined_length, row-behind}

-- rows for which there is room have their numbers in the area
pub rows_fit : (area : List ℕ) (n : ℕ) → n ≤ room area → n * row_length ≤ length area
unfolding room row_length
rows_fit area n h = omega (arith, div-mul-le_self (length area) row_length)

module _ {rows : List Row} {old area : List ℕ} {n : ℕ} (h : Holds rows old area n) (fits : length rows ≤ room old) where
  numbers : length (joined rows) ≡ n * row_length
  numbers = joined_length rows h.whole ∙ ap (λ (k : ℕ). k * row_length) h.many

  pub same_size : length area ≡ length old
  same_size = rw h.written (over-length (joined rows) old (rw (joined_length rows h.whole) (rows_fit old (length rows) fits)))

  pub same-room : room area ≡ room old
  unfolding room
  same-room = ap (λ (k : ℕ). k / row_length) same_size

  pub held-fit : n * row_length ≤ length area
  held-fit = rows_fit area n (omega (arith, same-room, h.many))

  -- a row is written behind those that are there
  pub holds_more : (x : Row) → length x ≡ row_length → {new : List ℕ} {m : ℕ} → new ≡ take (n * row_length) area ++ (x ++ drop (n * row_length + row_length) area) → m ≡ n + 1 → Holds (rows ++ (x ∷ [])) old new m
  holds_more x l e k = record {
    whole = whole_append rows (x ∷ []) h.whole (l, tt);
    many = length-append rows (x ∷ []) ∙ omega (arith, h.many);
    written = e ∙ rw h.written (row-behind rows x old (n * row_length) numbers l);
  }
