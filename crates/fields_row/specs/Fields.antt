-- The fields of a row, looked up in a line, and the word before them.
-- docs/REFERENCE.md, 19.3
use Rattle.std.specs.Prelude.{List, map, ℕ}
use Rattle.syntax.specs.Read.{bytes}
use Rattle.semantics.specs.States.{Row}
use Rattle.lookup.specs.Lookup.{lookup, field_of}
use Rattle.fields_row.specs.declared.words.Word.{Word}
use Rattle.fields_row.specs.declared.words.Word.TheVariants.{Matched, Ambiguous, Undecided, NotMatched, Exhausted, TooLong}

-- The fields ----------------------------------------------------------------------

module _ (index line standing : List ℕ) where
  -- a field after an answer of that kind, of which 0 is matched, with that row
  unfoldable pub field_named : (kind : ℕ) (x : Row) (name : List ℕ) → List ℕ
  field_named kind x name = field_of line standing (lookup name index line kind x)

  -- "each named field by the lookup"
  unfoldable pub fields : (kind : ℕ) (x : Row) (names : List (List ℕ)) → List (List ℕ)
  fields kind x names = map (field_named kind x) names

-- The word ------------------------------------------------------------------------

unfoldable pub text_of : Word → List ℕ
text_of Matched = bytes "matched"
text_of Ambiguous = bytes "ambiguous"
text_of Undecided = bytes "undecided"
text_of NotMatched = bytes "not matched"
text_of Exhausted = bytes "exhausted"
text_of TooLong = bytes "too long"

-- the kind of an answer, as the lookup asks for it: 0 where there is a match
unfoldable pub kind_of : Word → ℕ
kind_of Matched = 0
kind_of Ambiguous = 0
kind_of Undecided = 0
kind_of NotMatched = 1
kind_of Exhausted = 1
kind_of TooLong = 1
