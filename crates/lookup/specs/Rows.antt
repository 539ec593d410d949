-- 01's rules for a row, as 02's request l) changes them, and as a test of any numbers. Laws.Rows proves that the test tells what they say, and that every row
-- of a match keeps them.
-- docs/REFERENCE.md, 16.7
use Rattle.std.specs.Prelude.{◌≡◌, ◌⊎◌, Bool, true, ◌&&◌, ◌||◌, List, ℕ, zero, suc, ◌≤◌, leb, eqb, length, get_or}
use Rattle.syntax.specs.Limits.{group_limit, unset, row_length}
use Rattle.semantics.specs.States.{Row}
use Rattle.semantics.specs.Demands.{span_from, span_to, IsUnset}

-- "an unset or missing group is 4294967295 twice"
unfoldable pub is_unset : (from to : ℕ) → Bool
is_unset from to = eqb from unset && eqb to unset

-- 02, l): "A capture may now lie outside the match, but within the line", which has so many bytes
unfoldable pub span_holds : (size from to : ℕ) → Bool
span_holds size from to = is_unset from to || (leb from to && leb to size)

-- it does in so many groups of a row, from one on
unfoldable pub spans_hold : (many size : ℕ) (row : Row) (group : ℕ) → Bool
spans_hold zero size row group = true
spans_hold (suc many) size row group = span_holds size (span_from row group) (span_to row group) && spans_hold many size row (suc group)

-- "A row becomes 130 numbers: start, end and 64 pairs" (02, j), and 01's "Start <= end <= length", for a line of that length
unfoldable pub is_row : (size : ℕ) (row : Row) → Bool
is_row size row = eqb (length row) row_length && leb (get_or row 0 0) (get_or row 1 0) && leb (get_or row 1 0) size && spans_hold group_limit size row 1

-- the same in words, of a row for a line
pub record RowRules (line : List ℕ) (row : Row) : Type 0 where
  pub size : length row ≡ row_length
  pub forward : get_or row 0 0 ≤ get_or row 1 0
  pub inside : get_or row 1 0 ≤ length line
  pub spans : (group : ℕ) → 1 ≤ group → group ≤ group_limit → IsUnset (span_from row group) (span_to row group) ⊎ ((span_from row group ≤ span_to row group) × (span_to row group ≤ length line))
