-- The lines of the table: "a head line, then for each line its number, one word and each named field".
-- docs/REFERENCE.md, 19.3
use Rattle.std.specs.Prelude.{List, [], ◌∷◌, ◌++◌, ℕ}
use Rattle.syntax.specs.Read.{bytes}
use Rattle.text.specs.Lines.{newline}
use Rattle.text.specs.Numbers.{decimal}
use Rattle.fields_text.specs.Escaping.{escaped}

unfoldable pub tab : ℕ
tab = 9

-- the columns from one on, each behind a tab, up to the end of the line
unfoldable pub cells : List (List ℕ) → List ℕ
cells [] = newline ∷ []
cells (field ∷ fields) = (tab ∷ escaped field) ++ cells fields

-- the two columns that every line of the table begins with
unfoldable pub opening : (first second : List ℕ) → List ℕ
opening first second = first ++ (tab ∷ second)

-- the line of the table for a line of that number
unfoldable pub table_row : (number : ℕ) (word : List ℕ) (fields : List (List ℕ)) → List ℕ
table_row number word fields = opening (decimal number) word ++ cells fields

-- "a head line"
unfoldable pub head_line : (names : List (List ℕ)) → List ℕ
head_line names = opening (bytes "line") (bytes "answer") ++ cells names
