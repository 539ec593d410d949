-- What is told of a line, case by case.
use Rattle.std.specs.Prelude.{◌≡◌, ℕ, ◌≤◌, ◌<◌, Ok, length}
use Rattle.std.proofs.Math.Path.{refl, sym, ap}
use Rattle.std.proofs.Common.{◌∙◌, arith, lt-ltb, le-ltb, drop_of_length-le}
use mathlib.Core.List.{List, [], ◌∷◌, ◌++◌, append-nil}
use Rattle.syntax.specs.declared.Refusal.{Refusal}
use Rattle.syntax.specs.Limits.{subject_limit, row_length}
use Rattle.syntax.specs.Tree.{Rule}
use Rattle.syntax.specs.WellFormed.{WellFormed}
use Rattle.semantics.specs.States.{Row, row}
use Rattle.semantics.specs.Answers.{Outcome, matched, not_matched, exhausted, Answer, answer, listing}
use Rattle.semantics.specs.Calls.{over, room}
use Rattle.frame.specs.Inputs.{Held}
use Rattle.finding.specs.declared.Outcome.{Outcome as Reported}
use Rattle.finding.specs.declared.Outcome.TheVariants.{Matched as Found, NotMatched as Missed, Exhausted as Spent, Refused as Denied}
use Rattle.finding.specs.Outcomes.{Reports}
use Rattle.gathering.specs.declared.Listing.{Listing as Listed}
use Rattle.gathering.specs.Listing.{listing_of, Lists}
use Rattle.lookup.specs.Laws.Lookup.{not-matched}
use Rattle.text.specs.Numbers.{decimal}
use Rattle.fields_text.specs.Table.{opening, table_row}
use Rattle.fields_row.specs.declared.words.Word.{Word}
use Rattle.fields_row.specs.declared.words.Word.TheVariants.{NotMatched, Exhausted, TooLong}
use Rattle.fields_row.specs.Fields.{field_named, fields, text_of, kind_of}
use Rattle.fields_row.specs.Parts.{left}
use Rattle.fields_row.specs.Laws.Parts.{left-all}
use Rattle.fields_line.specs.Answers.{Table, verdict, tells, told, fields_of, row_for}
use Rattle.fields_line.specs.Promises.{verdict_by, Lent, Answers}
use Rattle.fields_line.specs.Laws.Listings.{verdict-told}

-- a line that is not too long can be matched and listed
pub lent-held : {code work_area : List ℕ} {entry budget : ℕ} → Lent code entry budget work_area → (line work_area' : List ℕ) → length line ≤ subject_limit → length work_area' ≡ length work_area → Held code line work_area' entry budget
lent-held l line work_area' short e = record { tree = l.tree; stands = l.stands; code_size = l.code_size; subject_fits = short; work_fits = rw e l.work_area_fits; budget_fits = l.budget_fits }

-- with no match, no row is looked at
field-unmatched : (index line standing : List ℕ) (x y : Row) (name : List ℕ) → field_named index line standing 1 x name ≡ field_named index line standing 1 y name
unfolding field_named
field-unmatched index line standing x y name = rw (not-matched name index line 1 x (λ e. omega arith), not-matched name index line 1 y (λ e. omega arith))

fields-unmatched : (index line standing : List ℕ) (x y : Row) (names : List (List ℕ)) → fields index line standing 1 x names ≡ fields index line standing 1 y names
unfolding fields
fields-unmatched index line standing x y [] = refl
fields-unmatched index line standing x y (name ∷ names) =
    ap (λ (f : List ℕ). f ∷ fields index line standing 1 x names) (field-unmatched index line standing x y name)
    ∙ ap (λ (fs : List (List ℕ)). field_named index line standing 1 y name ∷ fs) (fields-unmatched index line standing x y names)

module _ (t : Table) (line : List ℕ) where
  -- a line that is too long, and one that is not
  long-told : subject_limit < length line → told t line ≡ record { word = TooLong; reading = [] }
  unfolding told
  long-told h = rw (lt-ltb subject_limit (length line) h)

  short-told : length line ≤ subject_limit → (o : Outcome) → (answer line t.rule t.budget).outcome ≡ o → told t line ≡ tells t line o
  unfolding told
  short-told h o e = rw (le-ltb subject_limit (length line) h, e)

  -- with no match, and with one
  without : (w : Word) → kind_of w ≡ 1 → told t line ≡ record { word = w; reading = [] } → (x : Row) → Answers t line w x
  unfolding fields_of
  without w k e x = record { word_is = rw e; fields_are = rw (e, k) (fields-unmatched t.index line t.standing x [] t.names) }

  with_row : (w : Word) (x : Row) → told t line ≡ record { word = w; reading = x } → Answers t line w x
  unfolding fields_of
  with_row w x e = record { word_is = rw e; fields_are = rw e }

  pub answers-long : subject_limit < length line → (x : Row) → Answers t line TooLong x
  unfolding kind_of
  answers-long h x = without TooLong refl (long-told h) x

  module _ (short : length line ≤ subject_limit) (old new : List ℕ) (o : Reported) (reports : Reports old new o (answer line t.rule t.budget)) where
    pub answers-missed : (steps : ℕ) → o ≡ Missed steps → (x : Row) → Answers t line NotMatched x
    unfolding kind_of tells
    answers-missed steps e x =
        let r : Reports old new (Missed steps) (answer line t.rule t.budget) = rw e at reports in
        without NotMatched refl (short-told short not_matched (ap (λ (a : Answer). a.outcome) r.0)) x

    pub answers-spent : (start steps : ℕ) → o ≡ Spent start steps → (x : Row) → Answers t line Exhausted x
    unfolding kind_of tells
    answers-spent start steps e x =
        let r : Reports old new (Spent start steps) (answer line t.rule t.budget) = rw e at reports in
        without Exhausted refl (short-told short (exhausted start) (ap (λ (a : Answer). a.outcome) r.0)) x

-- the row of a match fills an area of its length
filled : (x old : List ℕ) → length old ≤ length x → over x old ≡ x
unfolding over
filled x old h = rw (drop_of_length-le old h) (append-nil x)

-- a match, with the word that the listing gives
module _ (rule : Rule) (groups budget : ℕ) (formed : WellFormed groups rule) (index standing : List ℕ) (names : List (List ℕ)) (line : List ℕ) (short : length line ≤ subject_limit) where
  pub answers-found : (old new : List ℕ) (o : Reported) → Reports old new o (answer line rule budget) → (steps : ℕ) → o ≡ Found steps → length old ≡ row_length
      → (results results' : List ℕ) (l : Listed) → Lists line rule budget results results' l → (w : Word) → w ≡ verdict_by index line standing names new (listing_of (Ok l)) results'
      → Answers (record { rule = rule; index = index; budget = budget; room = room results; names = names; standing = standing }) line w new
  unfolding tells
  answers-found old new o reports steps e size results results' l lists w is =
      let t : Table = record { rule = rule; index = index; budget = budget; room = room results; names = names; standing = standing } in
      let r : Reports old new (Found steps) (answer line rule budget) = rw e at reports in
      let x : Row = row r.0 r.1 in
      let left : new ≡ x = r.3 ∙ filled x old (omega (arith, r.4)) in
      let word : verdict t line x (listing line rule budget (room results)) ≡ w = sym (is ∙ verdict-told line rule budget results results' l lists groups formed index standing names new ∙ ap (λ (y : Row). verdict t line y (listing line rule budget (room results))) left) in
      let says : told t line ≡ record { word = verdict t line x (listing line rule budget (room results)); reading = x } = short-told t line short (matched r.0 r.1) (ap (λ (a : Answer). a.outcome) r.2) in
      rw left (with_row t line w x (rw word at says))

-- a rule that stands is not refused
pub never-denied : (old new : List ℕ) (o : Reported) (a : Answer) → Reports old new o a → (why : Refusal) → o ≡ Denied why → ⊥
never-denied old new o a r why e = rw e at r

-- The row ------------------------------------------------------------------------

-- what is written of a line's row, first its opening and then the rest
pub row-parts : (t : Table) (number : ℕ) (line : List ℕ) → row_for t number line ≡ opening (decimal number) (text_of (told t line).word) ++ left (fields_of t line) 0
unfolding row_for table_row
row-parts t number line = rw (left-all (fields_of t line))
