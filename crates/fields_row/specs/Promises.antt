-- What the functions promise.
-- docs/REFERENCE.md, 19.3
use Rattle.std.specs.Prelude.{◌≡◌, List, ◌++◌, ◌⊎◌, ℕ, ◌+◌, ◌-◌, ◌*◌, ◌≤◌, ◌<◌}
use Rattle.text.specs.Writing.{Wrote}
use Rattle.fields_columns.specs.Columns.{names_from}
use Rattle.fields_row.specs.declared.parts.Place.{Place}
use Rattle.fields_row.specs.Fields.{fields}
use Rattle.fields_row.specs.Parts.{left}

-- the bytes of a part at most: a tab, and so many bytes of a field
unfoldable pub chunk : ℕ
chunk = 4096

unfoldable pub part_room : ℕ
unfolding chunk
part_room = 1 + 4 * chunk

-- one place follows another: a later column, or more of this one
abbrev pub Onward : (count : ℕ) (p q : Place) → Type 0
Onward count p q = ((p.column < q.column) × (q.column ≤ count)) ⊎ ((q.column ≡ p.column) × (p.taken < q.taken))

-- what was written, and then what is still to be written, is what was to be written
pub record Spoken (fields_from : ℕ → List (List ℕ)) (out : List ℕ) (p : Place) (out' : List ℕ) (q : Place) : Type 0 where
  pub text : List ℕ
  pub wrote : Wrote out p.put text out' q.put
  pub near : q.put ≤ p.put + part_room
  pub goes_on : left (fields_from p.column) p.taken ≡ text ++ left (fields_from q.column) q.taken

-- the fields of the columns from one on
abbrev pub fields_from : (columns : List ℕ) (count : ℕ) (index line standing : List ℕ) (kind : ℕ) (x : List ℕ) → ℕ → List (List ℕ)
fields_from columns count index line standing kind x i = fields index line standing kind x (names_from columns i (count - i))
