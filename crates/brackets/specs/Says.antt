-- What the readers of the openings of groups promise: their answers are those of the grammar, and the names of the groups opened stand in the table.
-- docs/REFERENCE.md, 9
use Rattle.std.specs.Prelude.{◌≡◌, Bool, true, false, List, [], ◌∷◌, Result, Ok, Err, ℕ, ◌+◌, ◌-◌, ◌≤◌, length, if◌then◌else◌}
use Rattle.syntax.specs.declared.Form.{Form}
use Rattle.syntax.specs.declared.Form.TheVariants.{Grouped, Captured, Held, Ahead, NotAhead}
use Rattle.syntax.specs.declared.Refusal.{Refusal}
use Rattle.syntax.specs.Limits.{group_limit}
use Rattle.syntax.specs.Read.{Read, sound, refused, and_then}
use Rattle.syntax.specs.Tree.{enclosed}
use Rattle.syntax.specs.Names.{Names, name_up_to, fresh}
use Rattle.syntax.specs.Grammar.{Inner, closing, grouped, alternation, inside}
use Rattle.name_table.specs.Table.{names_in, NamesFit}
use Rattle.brackets.specs.declared.Bracket.{Bracket}
use Rattle.brackets.specs.declared.Bracket.TheVariants.{Named, Captures, Begins}
use Rattle.brackets.specs.declared.Opening.{Opening}

-- the number of a group that captures is one that a rule may have
abbrev pub FormFits : Form → Type 0
FormFits Grouped = Unit {0}
FormFits (Captured n) = (1 ≤ n) × (n ≤ group_limit)
FormFits Held = Unit {0}
FormFits Ahead = Unit {0}
FormFits NotAhead = Unit {0}

-- the reading of the head of a group that captures, from `start` on: its name, if one is written there
unfoldable pub head_of : List ℕ → (at : ℕ) → Names → (start : ℕ) → Bool → Read Names
head_of s at names start named = and_then (if named then fresh at names (name_up_to ">" s at start) else sound [] start) (λ n next. sound (n ∷ names) next)

-- the first bytes of a group of a form that opens at `at`, where so many groups have been opened, and the reading of its head
pub record Bracketed (s : List ℕ) (at opened start : ℕ) (form : Form) (head : Names → Read Names) : Type 0 where
  pub on : at + 1 ≤ start
  pub within : start ≤ length s
  pub numbered : FormFits form
  pub goes : (inner : Inner) (names : Names) → length names ≡ opened → grouped s inner at names ≡ and_then (inner at (head names)) (λ r end. closing s at (enclosed form at r.0) r.1 end)

-- the same by the first bytes that the code met
abbrev pub IsBracket : List ℕ → (at opened : ℕ) → Bracket → Type 0
IsBracket s at opened (Named start) = Bracketed s at opened start (Captured (opened + 1)) (λ names. head_of s at names start true)
IsBracket s at opened (Captures start) = Bracketed s at opened start (Captured (opened + 1)) (λ names. head_of s at names start false)
IsBracket s at opened (Begins start form) = Bracketed s at opened start form (λ names. sound names start)

abbrev pub SaysBracket : List ℕ → (at opened : ℕ) → Result Bracket Refusal → Type 0
SaysBracket s at opened (Ok b) = IsBracket s at opened b
SaysBracket s at opened (Err f) = (inner : Inner) (names : Names) → length names ≡ opened → grouped s inner at names ≡ refused f.place f.reason

-- the inside of a group begins at `start`, with so many groups then opened, their names in the table
pub record Begun (s table : List ℕ) (from start next : ℕ) (form : Form) : Type 0 where
  pub on : from ≤ start
  pub within : start ≤ length s
  pub few : next ≤ group_limit
  pub numbered : FormFits form
  pub fit : NamesFit s table next

-- the head of a group of a form, read as a
abbrev pub SaysHead : (s table : List ℕ) → (from : ℕ) → Form → Read Names → Result Opening Refusal → Type 0
SaysHead s table from form a (Ok o) = Begun s table from o.start o.opened form × (o.form ≡ form) × (a ≡ sound (names_in s table o.opened) o.start)
SaysHead s table from form a (Err f) = a ≡ refused f.place f.reason

-- The opening of a group: what it is, how deep, and its name. The inside is read with one level less to nest.
pub record Opened (s : List ℕ) (flags depth at : ℕ) (names : Names) (table : List ℕ) (start next : ℕ) (form : Form) : Type 0 where
  pub begins : Begun s table (at + 1) start next form
  pub deep : 1 ≤ depth
  pub goes : (known : Names) → grouped s (inside depth s flags known) at names
      ≡ and_then (alternation s flags known (inside (depth - 1) s flags known) (names_in s table next) start) (λ r end. closing s at (enclosed form at r.0) r.1 end)

abbrev pub SaysOpening : List ℕ → (flags depth at : ℕ) → Names → List ℕ → Result Opening Refusal → Type 0
SaysOpening s flags depth at names table (Ok o) = Opened s flags depth at names table o.start o.opened o.form
SaysOpening s flags depth at names table (Err f) = (known : Names) → grouped s (inside depth s flags known) at names ≡ refused f.place f.reason
