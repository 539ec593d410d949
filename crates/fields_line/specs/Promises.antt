-- What the functions promise.
-- docs/REFERENCE.md, 19.3
use Rattle.std.specs.Prelude.{◌≡◌, Bool, false, List, ℕ, ◌≤◌, eqb, length, get_or, if◌then◌else◌}
use Rattle.syntax.specs.Limits.{budget_limit, rule_area_need}
use Rattle.syntax.specs.Tree.{Rule}
use Rattle.syntax.specs.WellFormed.{WellFormed}
use Rattle.semantics.specs.States.{Row}
use Rattle.semantics.specs.Calls.{work_area_need, ListOutcome, list_complete, list_full, list_exhausted, list_refused}
use Rattle.semantics.specs.Demands.{rows_reported}
use Rattle.machine.specs.Theorem.{Stands}
use Rattle.index.specs.Rows.{rows_at}
use Rattle.fields_row.specs.declared.words.Word.{Word}
use Rattle.fields_row.specs.declared.words.Word.TheVariants.{Matched, Ambiguous, Undecided}
use Rattle.fields_row.specs.Fields.{fields, kind_of}
use Rattle.fields_compared.specs.Readings.{is_ambiguous}
use Rattle.fields_line.specs.Answers.{Table, last_start, told, fields_of}

-- The word ----------------------------------------------------------------------

-- whether a listing was cut, by what it told and the rows that it left
unfoldable pub cut_by : ListOutcome → (start : ℕ) (results : List ℕ) → Bool
cut_by (list_complete rows steps) start results = false
cut_by (list_full rows steps) start results = eqb (last_start start (rows_at results 0 rows)) start
cut_by (list_exhausted n rows steps) start results = eqb n start
cut_by (list_refused place why) start results = false

-- the word for a match, by its row and what a listing told and left
unfoldable pub verdict_by : (index line standing : List ℕ) (names : List (List ℕ)) (x : Row) → ListOutcome → (results : List ℕ) → Word
verdict_by index line standing names x o results =
    if is_ambiguous index line standing names x (rows_at results 0 (rows_reported o)) then Ambiguous
    else if cut_by o (get_or x 0 0) results then Undecided
    else Matched

-- what is lent: a rule that stands compiled, and a work area that is long enough
pub record Lent (code : List ℕ) (entry budget : ℕ) (work_area : List ℕ) : Type 0 where
  pub tree : Rule
  pub stands : Stands code tree entry
  pub code_size : length code ≡ rule_area_need
  pub work_area_fits : work_area_need budget ≤ length work_area
  pub budget_fits : budget ≤ budget_limit

-- the word is that of the line, and the fields looked up with the row that is left are the line's
pub record Answers (t : Table) (line : List ℕ) (w : Word) (x : List ℕ) : Type 0 where
  pub word_is : w ≡ (told t line).word
  pub fields_are : fields t.index line t.standing (kind_of w) x t.names ≡ fields_of t line

-- of every rule with so many groups that stands compiled there
abbrev pub Answered : (code : List ℕ) (entry groups budget room : ℕ) (index : List ℕ) (names : List (List ℕ)) (standing line : List ℕ) → Word → (x : List ℕ) → Type 0
Answered code entry groups budget room index names standing line w x =
    (rule : Rule) → Stands code rule entry → WellFormed groups rule
    → Answers (record { rule = rule; index = index; budget = budget; room = room; names = names; standing = standing }) line w x
