-- One line's part is told as its match reports it, and where a part is written, the rest of the area is left to the later lines.
use Rattle.std.specs.Prelude.{◌≡◌, refl, List, [], ◌∷◌, ◌++◌, ℕ, ◌+◌, ◌≤◌, ◌<◌, length, take, drop}
use Rattle.std.proofs.Common.{ap, sym, ◌∙◌, append_assoc, append-nil, arith, suc-mul, lt-ltb, le-ltb, length-drop, length-append, take-append-drop, drop_of_length-le, take_at, drop_at, length-take-le}
use Rattle.syntax.specs.declared.Reason.TheVariants.{SubjectTooLong}
use Rattle.syntax.specs.Limits.{subject_limit, row_length, part_length}
use Rattle.syntax.specs.Tree.{Rule}
use Rattle.semantics.specs.Answers.{answer}
use Rattle.semantics.specs.Calls.{untouched, MatchOutcome, match_refused, match_rule}
use Rattle.semantics.specs.Batches.{outcome_numbers, told, parts_need}
use Rattle.frame.specs.Inputs.{Told}
use Rattle.finding.specs.declared.Outcome.{Outcome as Answered}
use Rattle.finding.specs.Outcomes.{outcome_of, Reports}
use Rattle.finding.specs.Laws.Outcomes.{reports-told}
use Rattle.batch_lines.specs.Parts.{alone, line_return, line_part, filled}

-- One line ------------------------------------------------------------------------

pub long-return : (x : Rule) (line : List ℕ) (budget : ℕ) (row : List ℕ) → subject_limit < length line → line_return x line budget row ≡ untouched (match_refused 0 SubjectTooLong) (alone line budget row)
unfolding line_return
long-return x line budget row h = rw (lt-ltb subject_limit (length line) h)

pub short-return : (x : Rule) (line : List ℕ) (budget : ℕ) (row : List ℕ) → length line ≤ subject_limit → line_return x line budget row ≡ match_rule (alone line budget row) x
unfolding line_return
short-return x line budget row h = rw (le-ltb subject_limit (length line) h)

-- a line that is too long is refused, and its row stays
pub long-told : (x : Rule) (line : List ℕ) (budget : ℕ) (row : List ℕ) → subject_limit < length line → Told (line_return x line budget row) (match_refused 0 SubjectTooLong) row
unfolding untouched
long-told x line budget row h = rw (long-return x line budget row h) (record { outcome_is = refl; result_area_is = refl })

-- any other is told as its match reports it
pub short-told : (x : Rule) (line : List ℕ) (budget : ℕ) (row : List ℕ) (o : Answered) (new : List ℕ) → length line ≤ subject_limit → Reports row new o (answer line x budget) → Told (line_return x line budget row) (outcome_of o) new
short-told x line budget row o new h r = rw (short-return x line budget row h) (reports-told (alone line budget row) x o new r)

-- a row and four numbers behind it are the whole part
pub part-whole : (part row numbers : List ℕ) (k : ℕ) → length part ≡ part_length → length row ≡ row_length → row_length + k ≡ part_length
    → (let now = row ++ drop row_length part in take row_length now ++ (numbers ++ drop k (drop row_length now))) ≡ row ++ numbers
part-whole part row numbers k h n e =
    let now = row ++ drop row_length part in
    let rest : drop k (drop row_length now) ≡ [] = rw (drop_at row (drop row_length part) row_length n) (drop_of_length-le (drop row_length part) {i = k} (omega (arith, length-drop row_length part))) in
    rw (rest, take_at row (drop row_length part) row_length n) (ap {B = List ℕ} (λ (l : List ℕ). row ++ l) (append-nil numbers))

-- an outcome's row and its four numbers make the part
pub part-told : (x : Rule) (line : List ℕ) (budget : ℕ) (part : List ℕ) (o : MatchOutcome) (row : List ℕ) → Told (line_return x line budget (take row_length part)) o row → row ++ outcome_numbers o ≡ line_part x line budget part
unfolding line_part told
part-told x line budget part o row t = rw (t.outcome_is, t.result_area_is)

-- All lines -----------------------------------------------------------------------

-- a line more has a part more
pub part-more : (line : List ℕ) (lines : List (List ℕ)) → parts_need (line ∷ lines) ≡ part_length + parts_need lines
unfolding parts_need
part-more line lines = omega (arith, suc-mul (length lines) part_length)

filled_more : (x : Rule) (budget : ℕ) (line : List ℕ) (lines : List (List ℕ)) (area : List ℕ) → filled x budget (line ∷ lines) area ≡ line_part x line budget (take part_length area) ++ filled x budget lines (drop part_length area)
unfolding filled
filled_more x budget line lines area = refl

-- where a line's part is written, the rest of the area stays to be written over by the later lines
pub part_filled : (x : Rule) (budget : ℕ) (line : List ℕ) (lines : List (List ℕ)) (at k : ℕ) (old part : List ℕ) → k ≡ part_length → at + part_length ≤ length old → length part ≡ part_length → part ≡ line_part x line budget (take k (drop at old))
    → (new : List ℕ) → new ≡ take at old ++ (part ++ drop k (drop at old))
    → take at old ++ filled x budget (line ∷ lines) (drop at old) ≡ take (at + part_length) new ++ filled x budget lines (drop (at + part_length) new)
part_filled x budget line lines at k old part q h n p new e =
    let rest = drop part_length (drop at old) in
    let f : part ≡ line_part x line budget (take part_length (drop at old)) = rw q at p in
    let d : new ≡ take at old ++ (part ++ rest) = rw q at e in
    let g : new ≡ (take at old ++ part) ++ rest = d ∙ sym (append_assoc (take at old) part rest) in
    let m : length (take at old ++ part) ≡ at + part_length = length-append (take at old) part ∙ omega (arith, n, length-take-le at old (omega arith)) in
    rw (filled_more x budget line lines (drop at old), ← f, g, take_at (take at old ++ part) rest (at + part_length) m, drop_at (take at old ++ part) rest (at + part_length) m)
    (sym (append_assoc (take at old) part (filled x budget lines rest)))

pub none_left : (x : Rule) (budget at : ℕ) (area : List ℕ) → take at area ++ filled x budget [] (drop at area) ≡ area
unfolding filled
none_left x budget at area = take-append-drop at area
