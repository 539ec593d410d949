-- The columns of the table: their names, which stand in the layout of a name index, one entry for each column.
-- docs/REFERENCE.md, 19.3
use Rattle.std.specs.Prelude.{List, [], ◌∷◌, ℕ, zero, suc}
use Rattle.lookup.specs.Names.{entry_of, name_in}

-- the name of a column, numbered from 0
unfoldable pub name_at : (columns : List ℕ) (i : ℕ) → List ℕ
name_at columns i = name_in (entry_of columns (suc i))

-- the names of so many columns, from one on
unfoldable pub names_from : (columns : List ℕ) (i many : ℕ) → List (List ℕ)
names_from columns i zero = []
names_from columns i (suc many) = name_at columns i ∷ names_from columns (suc i) many

-- "all names of the rule": those of its groups that have one, in the order of the groups
unfoldable pub named : List (List ℕ) → List (List ℕ)
named [] = []
named ([] ∷ names) = named names
named ((b ∷ name) ∷ names) = (b ∷ name) ∷ named names
