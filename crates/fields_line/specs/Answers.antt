-- The line of the table for a line: "its number, one word and each named field by the lookup".
-- docs/REFERENCE.md, 19.3
use Rattle.std.specs.Prelude.{List, [], ◌∷◌, Bool, false, ℕ, ltb, eqb, length, get_or, if◌then◌else◌}
use Rattle.syntax.specs.Limits.{subject_limit}
use Rattle.syntax.specs.Tree.{Rule}
use Rattle.semantics.specs.States.{Row, row}
use Rattle.semantics.specs.Answers.{Outcome, matched, not_matched, exhausted, answer, Ending, complete, full, exhausted_at, Listing, listing}
use Rattle.fields_text.specs.Table.{table_row}
use Rattle.fields_row.specs.declared.words.Word.{Word}
use Rattle.fields_row.specs.declared.words.Word.TheVariants.{Matched, Ambiguous, Undecided, NotMatched, Exhausted, TooLong}
use Rattle.fields_row.specs.Fields.{fields, text_of, kind_of}
use Rattle.fields_compared.specs.Readings.{is_ambiguous}

-- What is the same for all lines: the rule, with its name index, the budget, the room of a listing, the names of the columns, and the standing text.
pub record Table : Type 0 where
  pub rule : Rule
  pub index : List ℕ
  pub budget : ℕ
  pub room : ℕ
  pub names : List (List ℕ)
  pub standing : List ℕ

-- Readings ----------------------------------------------------------------------

-- the start of the last reading listed; the one that is given, if none is
unfoldable pub last_start : ℕ → List Row → ℕ
last_start start [] = start
last_start start (x ∷ rows) = last_start (get_or x 0 0) rows

-- "the listing was cut before that could be known": before it went on from the match's start to another. It goes from start to start, so that a full
-- one had gone on if its last reading is another start's.
unfoldable pub is_cut : (start : ℕ) → Ending → List Row → Bool
is_cut start complete rows = false
is_cut start full rows = eqb (last_start start rows) start
is_cut start (exhausted_at n) rows = eqb n start

-- The word ----------------------------------------------------------------------

-- of a match, by its row and the listing
unfoldable pub verdict : Table → (line : List ℕ) → Row → Listing → Word
verdict t line x l =
    if is_ambiguous t.index line t.standing t.names x l.rows then Ambiguous
    else if is_cut (get_or x 0 0) l.ending l.rows then Undecided
    else Matched

-- The line of the table -----------------------------------------------------------

-- the word for a line, and the row of its match, by which the fields are looked up; with no match there is none
pub record Told : Type 0 where
  pub word : Word
  pub reading : Row

unfoldable pub tells : Table → (line : List ℕ) → Outcome → Told
tells t line (matched start end) = record { word = verdict t line (row start end) (listing line t.rule t.budget t.room); reading = row start end }
tells t line not_matched = record { word = NotMatched; reading = [] }
tells t line (exhausted start) = record { word = Exhausted; reading = [] }

unfoldable pub told : Table → (line : List ℕ) → Told
told t line = if ltb subject_limit (length line) then record { word = TooLong; reading = [] } else tells t line (answer line t.rule t.budget).outcome

unfoldable pub fields_of : Table → (line : List ℕ) → List (List ℕ)
fields_of t line = let a = told t line in fields t.index line t.standing (kind_of a.word) a.reading t.names

unfoldable pub row_for : Table → (number : ℕ) (line : List ℕ) → List ℕ
row_for t number line = table_row number (text_of (told t line).word) (fields_of t line)
