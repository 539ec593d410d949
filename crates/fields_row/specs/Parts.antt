-- A row of the table in parts: a field may be longer than the buffer.
-- docs/REFERENCE.md, 19.3
use Rattle.std.specs.Prelude.{List, [], ◌∷◌, ◌++◌, ℕ, eqb, drop, if◌then◌else◌}
use Rattle.text.specs.Lines.{newline}
use Rattle.fields_text.specs.Escaping.{escaped}
use Rattle.fields_text.specs.Table.{tab, cells}

-- the tab before a field, which stands before its first byte
unfoldable pub before : (taken : ℕ) → List ℕ
before taken = if eqb taken 0 then tab ∷ [] else []

-- what is left to be written of a row: the fields from one on, of which so many bytes were written
unfoldable pub left : (fields : List (List ℕ)) (taken : ℕ) → List ℕ
left [] taken = newline ∷ []
left (field ∷ fields) taken = before taken ++ (escaped (drop taken field) ++ cells fields)
