-- What the functions promise.
-- docs/REFERENCE.md, 19.3
use Rattle.std.specs.Prelude.{◌≡◌, List, ◌++◌, ℕ, ◌+◌, ◌-◌, ◌*◌, ◌≤◌, length}
use Rattle.syntax.specs.Limits.{group_limit, name_limit, name_index_need}
use Rattle.text.specs.Writing.{Wrote}
use Rattle.fields_text.specs.Table.{cells}
use Rattle.fields_columns.specs.Columns.{names_from}

-- the names of the columns stand in an area that has room for the most
pub record Columned (columns : List ℕ) (count : ℕ) : Type 0 where
  pub few : count ≤ group_limit
  pub fits : name_index_need ≤ length columns

-- The head ------------------------------------------------------------------------

-- the bytes of a column's name at most: a tab, and four for each byte of the longest
unfoldable pub column_room : ℕ
unfolding name_limit
column_room = 1 + 4 * name_limit

-- and of the whole head: `line`, a tab, `answer`, the names, and the 0A
unfoldable pub head_room : ℕ
unfolding column_room group_limit
head_room = 12 + column_room * group_limit

-- of the names of so many columns the first were written, each behind a tab
pub record Named (columns : List ℕ) (count done : ℕ) (out : List ℕ) (at : ℕ) (out' : List ℕ) (end : ℕ) : Type 0 where
  pub text : List ℕ
  pub wrote : Wrote out at text out' end
  pub near : end ≤ at + column_room * done
  pub goes_on : cells (names_from columns 0 count) ≡ text ++ cells (names_from columns done (count - done))
