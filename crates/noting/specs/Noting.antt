-- What a listing holds on its way over the ends of one start.
-- docs/REFERENCE.md, 16.3
use Rattle.std.specs.Prelude.{◌≡◌, true, false, List, [], ◌++◌, ◌⊎◌, Option, None, Some, ℕ, ◌+◌, ◌-◌, ◌*◌, ◌≤◌, ◌<◌, length, take, drop}
use Rattle.syntax.specs.Limits.{row_length}
use Rattle.syntax.specs.Tree.{Rule}
use Rattle.semantics.specs.States.{Row}
use Rattle.semantics.specs.Walk.{Trace}
use Rattle.semantics.specs.Answers.{known, Ending, full, exhausted_at, listing}
use Rattle.semantics.specs.Calls.{over, joined, room}
use Rattle.semantics.proofs.Laws.Loops.{ListAt}
use Rattle.machine.specs.Moves.{Now}
use Rattle.machine.specs.Ready.{Ready}
use Rattle.noting.specs.declared.walking.Ends.{Ends}
use Rattle.noting.specs.declared.walking.Ends.TheVariants.{Done, Full as NoneLeft, Spent}
use Rattle.index.specs.Rows.{rows_at, Whole}

-- One reading -------------------------------------------------------------------

-- whether the row x stands among those of this start
abbrev pub Met : List ℕ → (earlier rows : ℕ) → Row → Type 0
Met area earlier rows x = known x (rows_at area (earlier * row_length) (rows - earlier)) ≡ true

abbrev pub New : List ℕ → (earlier rows : ℕ) → Row → Type 0
New area earlier rows x = known x (rows_at area (earlier * row_length) (rows - earlier)) ≡ false

-- a new row stands behind the others
pub record Written (area : List ℕ) (earlier rows : ℕ) (x : Row) (new : List ℕ) (n : ℕ) : Type 0 where
  pub unmet : New area earlier rows x
  pub free : rows < room area
  pub more : n ≡ rows + 1
  pub is : new ≡ take (rows * row_length) area ++ (x ++ drop (rows * row_length + row_length) area)

-- what noting the row x makes of an area
abbrev pub Notes : List ℕ → (earlier rows : ℕ) → Row → List ℕ → Option ℕ → Type 0
Notes area earlier rows x new (Some n) = (Met area earlier rows x × (n ≡ rows) × (new ≡ area)) ⊎ Written area earlier rows x new n
Notes area earlier rows x new None = New area earlier rows x × (room area ≤ rows) × (new ≡ area)

-- One start ---------------------------------------------------------------------

-- these rows stand in the area, over what was there at first
pub record Holds (rows : List Row) (old area : List ℕ) (n : ℕ) : Type 0 where
  pub whole : Whole rows
  pub many : length rows ≡ n
  pub written : area ≡ over (joined rows) old

-- what is the same for all ends of a start
pub record Course : Type 0 where
  pub tree : Rule
  pub area : List ℕ  -- the result area as it was at first
  pub old : List Row  -- the rows of earlier starts
  pub before : ℕ  -- the steps of earlier starts
  pub after : ℕ  -- how many starts come after this one
  pub first : List ℕ  -- the registers at its beginning

-- with so many steps left, the machine is ready to go on, and so is the listing
pub record Going (code sub : List ℕ) (budget start earlier : ℕ) (k : Course) (wide : ℕ) (now : Now) (area : List ℕ) (left rows : ℕ) : Type 0 where
  pub seen : List Row  -- the rows of this start
  pub rest : Trace
  pub steps : ℕ
  pub ready : Ready code sub wide left k.first now rest
  pub listed : ListAt sub k.tree budget (room k.area) k.old seen steps start k.after left rest
  pub few : left ≤ budget
  pub paid : steps + left ≡ k.before + budget
  pub counted : length k.old ≡ earlier
  pub holds : Holds (k.old ++ seen) k.area area rows

-- the whole listing ended here
pub record Tells (sub : List ℕ) (x : Rule) (budget : ℕ) (old area : List ℕ) (ending : Ending) (rows steps : ℕ) : Type 0 where
  pub all : List Row
  pub holds : Holds all old area rows
  pub is : listing sub x budget (room old) ≡ record { rows = all; ending = ending; steps = steps }

-- all ends of the start are listed
pub record Through (sub : List ℕ) (budget start : ℕ) (k : Course) (regs area : List ℕ) (rows used : ℕ) : Type 0 where
  pub seen : List Row
  pub left : ℕ
  pub listed : ListAt sub k.tree budget (room k.area) k.old seen (k.before + used) start k.after left []
  pub holds : Holds (k.old ++ seen) k.area area rows
  pub same : regs ≡ k.first
  pub few : used ≤ budget

-- how the ends of a start came out
pub data Listed (sub : List ℕ) (budget start : ℕ) (k : Course) (regs area : List ℕ) : Ends → Type 0 where
  all_listed : {rows used : ℕ} → Through sub budget start k regs area rows used → Listed sub budget start k regs area (Done rows used)
  none_left : {rows used : ℕ} → Tells sub k.tree budget k.area area full rows (k.before + used) → used ≤ budget → Listed sub budget start k regs area (NoneLeft rows used)
  cut_short : {rows : ℕ} → Tells sub k.tree budget k.area area (exhausted_at start) rows (k.before + budget) → Listed sub budget start k regs area (Spent rows)
