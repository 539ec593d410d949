-- Rows of the table on small lines, computed from the rule's bytes: each word, and what makes no line ambiguous. One statement over one list.
-- docs/REFERENCE.md, 19.3
use Rattle.std.specs.Prelude.{◌≡◌, refl, List, [], ◌∷◌, map, ℕ}
use Prim.Native.String.{String}
use Rattle.syntax.specs.Read.{Read, sound, refused, bytes}
use Rattle.syntax.specs.Tree.{Rule}
use Rattle.syntax.specs.Reading.{names_of, reading}
use Rattle.semantics.specs.NameIndex.{name_index}
use Rattle.semantics.specs.Computing.{computing_calls}
use Rattle.lookup.specs.Computing.{computing_lookups}
use Rattle.text.specs.Lines.{newline}
use Rattle.text.specs.Numbers.{hex_digit, decimal_within, decimal}
use Rattle.fields_text.specs.Escaping.{hexed, is_plain, escape, escaped}
use Rattle.fields_text.specs.Table.{tab, cells, opening, table_row}
use Rattle.fields_row.specs.Fields.{field_named, fields, text_of, kind_of}
use Rattle.fields_compared.specs.Readings.{agree, is_other, is_ambiguous}
use Rattle.fields_line.specs.Answers.{last_start, is_cut, verdict, tells, told, fields_of, row_for}

unfoldable pub computing_rows : Unit {0}
unfolding computing_calls computing_lookups newline decimal_within decimal hex_digit hexed is_plain escape escaped tab cells opening table_row field_named fields agree is_other is_ambiguous last_start is_cut text_of kind_of verdict tells told fields_of row_for
computing_rows = tt

-- A rule, the names of the columns, the budget, the room of a listing, the standing text, a line, and its row.
pub data Example : Type 0 where
  row_of : (rule : String) (names : List (List ℕ)) (budget room : ℕ) (standing line row : String) → Example

unfoldable pub shown : Read (Rule × ℕ) → Example → List ℕ
shown (sound r at) (row_of rule names budget room standing line expected) =
    row_for (record { rule = r.0; index = name_index (names_of (bytes rule) 0); budget = budget; room = room; names = names; standing = bytes standing }) 1 (bytes line)
shown (refused place why) e = []

unfoldable pub computed : Example → List ℕ
computed (row_of rule names budget room standing line expected) = shown (reading (bytes rule) 0) (row_of rule names budget room standing line expected)

unfoldable pub wanted : Example → List ℕ
wanted (row_of rule names budget room standing line expected) = bytes expected

-- the column `n` alone
abbrev n : List (List ℕ)
n = bytes "n" ∷ []

unfoldable pub examples : List Example
examples =
    -- "which is what happened with that comma"
    row_of "^(?:(?<t>\\d{1,3},\\d{3})|(?<d>\\d+,\\d+)) L$" (bytes "t" ∷ bytes "d" ∷ []) 1000 9 "" "1,500 L" "1\tambiguous\t1,500\t\n"
    ∷ row_of "^(?:(?<t>\\d{1,3},\\d{3})|(?<d>\\d+,\\d+)) L$" (bytes "t" ∷ bytes "d" ∷ []) 1000 9 "-" "1,5 L" "1\tmatched\t-\t1,5\n"
    -- "a rule without `^` and `$` is not called ambiguous only because it could begin or end elsewhere"
    ∷ row_of "(?<n>\\d+)" n 1000 9 "" "150" "1\tmatched\t150\n"
    -- another group differs, which is no column
    ∷ row_of "^(?<n>a)(b?)(b?)$" n 1000 9 "" "ab" "1\tmatched\ta\n"
    -- not set, and the same as the standing text or another
    ∷ row_of "^(?:(?<n>a)|a)$" n 1000 9 "a" "a" "1\tmatched\ta\n"
    ∷ row_of "^(?:(?<n>a)|a)$" n 1000 9 "b" "a" "1\tambiguous\ta\n"
    -- full before the other reading of the match's start was listed, and behind it
    ∷ row_of "^(?<n>a)(b?)(b?)$" n 1000 1 "" "ab" "1\tundecided\ta\n"
    ∷ row_of "(?<n>a)|b|(?:b)b" n 1000 2 "" "abb" "1\tmatched\ta\n"
    -- exhausted at the match's start, and behind it
    ∷ row_of "^(?<n>a)(?:b*)*$" n 30 9 "" "abbb" "1\tundecided\ta\n"
    ∷ row_of "(?<n>x)|(?:a*)*c" n 12 9 "" "xaaa" "1\tmatched\tx\n"
    -- no match
    ∷ row_of "^(?<n>a)$" n 1000 9 "-" "b" "1\tnot matched\t\n"
    ∷ row_of "^(?<n>a)$" n 1 9 "-" "a" "1\texhausted\t\n"
    -- bytes that are escaped
    ∷ row_of "^(?<n>.*)$" n 1000 9 "" "a\tb\\t\ré" "1\tmatched\ta\\tb\\\\t\\r\\xE9\n"
    ∷ []

pub examples-hold : map computed examples ≡ map wanted examples
unfolding computing_rows shown computed wanted examples
examples-hold = refl
