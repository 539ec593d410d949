-- The demands on a day's lines, 02 h), sentence by sentence: of each line they are those of a match, and so statements over derivations.
-- BatchDemandsHold proves them for all inputs.
-- docs/REFERENCE.md, 16.6
use Rattle.std.specs.Prelude.{◌≡◌, List, [], ◌∷◌, ◌++◌, ◌↔◌, Bool, true, false, ℕ, suc, ◌+◌, ◌*◌, ◌^◌, ◌<◌, length, get_or, take, drop}
use Rattle.syntax.specs.declared.Reason.{Reason}
use Rattle.syntax.specs.declared.Reason.TheVariants.{SubjectTooLong}
use Rattle.syntax.specs.Limits.{subject_limit, row_length, part_length}
use Rattle.syntax.specs.Refusals.{number_of}
use Rattle.syntax.specs.Tree.{Rule}
use Rattle.semantics.specs.Assertions.{is_newline}
use Rattle.semantics.specs.Calls.{Call, Return, MatchOutcome, match_matched, match_not_matched, match_exhausted, match_refused, match_call}
use Rattle.semantics.specs.Batches.{line_call, told, lines_of, BatchOutcome, batch_done, batch_refused, lineless, parts_need}
use Rattle.semantics.specs.Demands.{In, Accepted, Demand1, MatchDemands}

-- The split -----------------------------------------------------------------------

-- the byte that ends a line
abbrev pub newline : ℕ
newline = 0x0A

abbrev pub NoNewline : List ℕ → Type 0
NoNewline line = ¬ In newline line

-- lines as they stand in a buffer, each before its 0A
abbrev pub with_newlines : List (List ℕ) → List ℕ
with_newlines [] = []
with_newlines (line ∷ lines) = line ++ (newline ∷ with_newlines lines)

-- "A last piece without 0A counts if not empty."
abbrev pub counting : (ended : List (List ℕ)) (piece : List ℕ) → List (List ℕ)
counting ended [] = ended
counting ended (b ∷ s) = ended ++ ((b ∷ s) ∷ [])

-- "a buffer of lines split at 0A"
pub record Split (buffer : List ℕ) (lines : List (List ℕ)) : Type 0 where
  pub ended : List (List ℕ)  -- those before an 0A
  pub piece : List ℕ  -- and what stands behind the last 0A
  pub in_order : buffer ≡ with_newlines ended ++ piece
  pub at_each : (line : List ℕ) → In line ended → NoNewline line
  pub without : NoNewline piece
  pub counted : lines ≡ counting ended piece

-- One line's part of the area -------------------------------------------------------

-- the part with this number, from 0 on
abbrev pub part : ℕ → (area : List ℕ) → List ℕ
part i area = take part_length (drop (i * part_length) area)

-- "the steps' low and high 32 bits"
pub record Bits (steps low high : ℕ) : Type 0 where
  pub low_fits : low < 2 ^ 32
  pub high_fits : high < 2 ^ 32
  pub make : steps ≡ low + 2 ^ 32 * high

-- "four numbers: 0 matched, 1 not, 2 exhausted, 3 refused; the exhausted start or the reason, else 0; the steps' low and high 32 bits, 0 if refused"
pub data Tells : MatchOutcome → List ℕ → Type 0 where
  matched : {steps low high : ℕ} → Bits steps low high → Tells (match_matched steps) (0 ∷ 0 ∷ low ∷ high ∷ [])
  not_matched : {steps low high : ℕ} → Bits steps low high → Tells (match_not_matched steps) (1 ∷ 0 ∷ low ∷ high ∷ [])
  exhausted : {start steps low high : ℕ} → Bits steps low high → Tells (match_exhausted start steps) (2 ∷ start ∷ low ∷ high ∷ [])
  refused : {place : ℕ} {why : Reason} → Tells (match_refused place why) (3 ∷ number_of why ∷ 0 ∷ 0 ∷ [])

-- what stands in a line's part when the call returns, and what stood there
pub record LineDemands (c : Call) (line before after : List ℕ) : Type 0 where
  -- "It equals one call after another": this is what a match of that line alone returns
  pub match_of_line : Return MatchOutcome
  pub demands : MatchDemands (line_call c line (take row_length before)) match_of_line
  -- "A line's part of the area is its row,
  pub row : take row_length after ≡ match_of_line.result_area
  -- unchanged unless matched,
  pub unchanged : ((steps : ℕ) → ¬ (match_of_line.outcome ≡ match_matched steps)) → take row_length after ≡ take row_length before
  -- then four numbers"
  pub numbers : Tells match_of_line.outcome (drop row_length after)
  -- "A line over 65,535 bytes gets refusal 2 in its own outcome", and no line gets another: "any other refusal refuses the whole call"
  pub refused_exactly : (place : ℕ) (why : Reason) → (match_of_line.outcome ≡ match_refused place why) ↔ ((subject_limit < length line) × (place ≡ 0) × (why ≡ SubjectTooLong))

-- The whole of a day's lines --------------------------------------------------------

-- what the call returns if its rule is not refused
pub record BatchAnswers (c : Call) (lines : List (List ℕ)) (x : Return BatchOutcome) : Type 0 where
  pub done : x.outcome ≡ batch_done (length lines)
  -- "one row and one outcome a line", and "the others go on"
  pub each_line : (i : ℕ) → i < length lines → LineDemands c (get_or lines i []) (part i c.result_area) (part i x.result_area)
  -- 01: "All other numbers in the area stay unchanged."
  pub others : drop (parts_need lines) x.result_area ≡ drop (parts_need lines) c.result_area

-- Demand 1 is that of a call with no subject and with the numbers that the lines need: 2 is not given, and 7 "only if lines outnumber parts, in its
-- old place".
pub record BatchDemands (c : Call) (x : Return BatchOutcome) : Type 0 where
  pub lines : List (List ℕ)
  pub split : Split c.subject lines
  pub demand_1 : Demand1 batch_refused (parts_need lines) (lineless c) x
  pub answers : (r : Rule) (groups : ℕ) → Accepted (parts_need lines) (lineless c) r groups → BatchAnswers c lines x

-- One call after another --------------------------------------------------------------

-- two calls that differ, if at all, in what stands in the rule area, the work area and the name index
pub record AlikeButLent (c d : Call) : Type 0 where
  pub rule : c.rule ≡ d.rule
  pub flags : c.flags ≡ d.flags
  pub subject : c.subject ≡ d.subject
  pub budget : c.budget ≡ d.budget
  pub result_area : c.result_area ≡ d.result_area
  pub rule_area_size : length c.rule_area ≡ length d.rule_area
  pub work_area_size : length c.work_area ≡ length d.work_area
  pub names_size : length c.names ≡ length d.names

-- the same call, lent the areas as another left them
abbrev pub lent_again : Call → Return MatchOutcome → Call
lent_again c x = record {
  rule = c.rule;
  flags = c.flags;
  subject = c.subject;
  budget = c.budget;
  rule_area = x.rule_area;
  work_area = x.work_area;
  result_area = c.result_area;
  names = x.names;
}

-- the matches of all lines in turn, the numbers of each written down, and the areas after the last
abbrev pub in_turn : Call → (lines : List (List ℕ)) (area : List ℕ) → List ℕ × Call
in_turn c [] area = ([], c)
in_turn c (line ∷ lines) area =
    let x = match_call (line_call c line (take row_length area)) in
    let later = in_turn (lent_again c x) lines (drop part_length area) in
    (told x ++ later.0, later.1)

-- Two buffers ---------------------------------------------------------------------------

-- two calls that differ, if at all, in their buffers
pub record AlikeButBuffer (c d : Call) : Type 0 where
  pub rule : c.rule ≡ d.rule
  pub flags : c.flags ≡ d.flags
  pub budget : c.budget ≡ d.budget
  pub rule_area : c.rule_area ≡ d.rule_area
  pub work_area : c.work_area ≡ d.work_area
  pub result_area : c.result_area ≡ d.result_area
  pub names : c.names ≡ d.names

-- "as long as the split stays": as many lines as before
abbrev pub SplitStays : (buffer other : List ℕ) → Type 0
SplitStays buffer other = length (lines_of buffer) ≡ length (lines_of other)

unfoldable pub one_more_if : Bool → ℕ → ℕ
one_more_if true n = suc n
one_more_if false n = n

-- which line a byte belongs to that has these bytes before it: as many 0A as stand there
unfoldable pub newlines : List ℕ → ℕ
newlines [] = 0
newlines (b ∷ s) = one_more_if (is_newline b) (newlines s)

-- lists of as many lines that are the same but for one of them
pub record SameButLine (lines others : List (List ℕ)) (k : ℕ) : Type 0 where
  pub many : length lines ≡ length others
  pub same : (i : ℕ) → ¬ (i ≡ k) → get_or lines i [] ≡ get_or others i []

-- what a call returns but for the result area is the same
pub record SameAside (x y : Return BatchOutcome) : Type 0 where
  pub outcome : x.outcome ≡ y.outcome
  pub rule_area : x.rule_area ≡ y.rule_area
  pub work_area : x.work_area ≡ y.work_area
  pub names : x.names ≡ y.names
