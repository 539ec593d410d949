-- What the readers of parts of a sequence and of the ends of groups promise: their answers are those of the grammar, and the tree of a sound one stands in
-- the area.
-- docs/REFERENCE.md, 4.2, 8.2, 9
use Rattle.std.specs.Prelude.{◌≡◌, Bool, List, Result, Ok, Err, ℕ, ◌+◌, ◌*◌, ◌≤◌, ◌<◌, length, get_or, if◌then◌else◌}
use Rattle.syntax.specs.declared.Form.{Form}
use Rattle.syntax.specs.declared.Greed.{Greed}
use Rattle.syntax.specs.declared.Most.{Most}
use Rattle.syntax.specs.declared.Refusal.{Refusal}
use Rattle.syntax.specs.Limits.{group_limit}
use Rattle.syntax.specs.Read.{Read, sound, refused, and_then}
use Rattle.syntax.specs.Tree.{Rule, enclosed, line_break}
use Rattle.syntax.specs.Names.{Names}
use Rattle.syntax.specs.Quantifiers.{quantifier}
use Rattle.syntax.specs.Grammar.{atom, Inner, closing, Sequence, unrepeatable, repeatable, repeated, whole, with_item, repeating, breaks_line, part}
use Rattle.linker.specs.Nodes.{Region, Part, Chain, Inside}
use Rattle.writer.specs.Wrote.{Below}
use Rattle.parts.specs.declared.Cursor.{Cursor}
use Rattle.parts.specs.declared.Part.{Part as PartRead}
use Rattle.parts.specs.declared.Step.{Step}
use Rattle.parts.specs.declared.Before.{Before}
use Rattle.parts.specs.declared.Before.TheVariants.{Nothing, Repeatable, Repeated}

-- Room -----------------------------------------------------------------------

-- Each byte of a rule pays for as many numbers as the longest node of one byte takes. The bar of an alternation pays for its branch's node
-- and for that of the last branch.
abbrev pub price : ℕ
price = 11

-- the cursor at a position, behind a node of n numbers
abbrev pub behind_node : Cursor → (at n : ℕ) → Cursor
behind_node c at n = record { at = at; used = c.used + n; opened = c.opened }

-- a reader of a rule of so many bytes can begin at the cursor: what is used has been paid for, and the area has room for the rest
pub record Ready (size : ℕ) (area : List ℕ) (c : Cursor) : Type 0 where
  pub within : c.at ≤ size
  pub began : 1 ≤ c.used
  pub paid : c.used ≤ price * c.at + 1
  pub room : price * size + 1 ≤ length area
  pub narrow : price * size + 1 < 4294967296  -- the greatest position is a number of 32 bits
  pub few : c.opened ≤ group_limit

-- from the cursor c to d, which is at least so many bytes on, with p the position of what was read
pub record Moves (size : ℕ) (c : Cursor) (least : ℕ) (d : Cursor) (p : ℕ) : Type 0 where
  pub on : c.at + least ≤ d.at
  pub within : d.at ≤ size
  pub grown : c.used ≤ d.used
  pub paid : d.used + price * c.at ≤ c.used + price * d.at
  pub address : p < d.used
  pub few : d.opened ≤ group_limit

abbrev pub Moved : (size : ℕ) → Cursor → (least : ℕ) → Result PartRead Refusal → Type 0
Moved size c least (Ok r) = Moves size c least r.cursor r.node
Moved size c least (Err f) = Unit

abbrev pub MovedTurn : (size : ℕ) → Cursor → Result Step Refusal → Type 0
MovedTurn size c (Ok r) = Moves size c 1 r.cursor r.node
MovedTurn size c (Err f) = Unit

-- what every reader does: it moves, it changes nothing below what was used, it leaves the groups' names as it should, and it keeps its claim
pub record Does (old new : List ℕ) (used : ℕ) (Move Name Claim : Type 0) : Type 0 where
  pub moved : Move
  pub frame : Below used new old
  pub names : Name
  pub claim : Claim

-- The names of the groups ----------------------------------------------------------

-- the names of so many groups, the latest group's first
abbrev pub Told : Type 0
Told = ℕ → Names

-- no group was opened
abbrev pub NoneOpened : Cursor → Result PartRead Refusal → Type 0
NoneOpened c (Ok r) = r.cursor.opened ≡ c.opened
NoneOpened c (Err f) = Unit

abbrev pub NoneOpenedTurn : Cursor → Result Step Refusal → Type 0
NoneOpenedTurn c (Ok r) = r.cursor.opened ≡ c.opened
NoneOpenedTurn c (Err f) = Unit

-- What stands in the area ----------------------------------------------------------

-- A reference by name may stand before its group. So what is read stands in the area for all names that the groups of the whole rule may turn out to
-- have: `known`. A refusal does not depend on them either.

abbrev pub Standing : Type 1
Standing = List ℕ → Rule → Region

-- the grammar's answer a is what r says, and a sound one's tree stands in the area from lo on
abbrev pub Says : Standing → Told → Read (Rule × Names) → List ℕ → ℕ → Result PartRead Refusal → Type 0
Says Stands told a area lo (Ok r) = (t : Rule) × (a ≡ sound (t, told r.cursor.opened) r.cursor.at) × Stands area t lo r.cursor.used r.node
Says Stands told a area lo (Err f) = a ≡ refused f.place f.reason

-- the part at p is no repeat and names the part before it
pub record After (area : List ℕ) (before p : ℕ) : Type 0 where
  pub plain : get_or area p 0 ≡ 7 → ⊥
  pub link : get_or area (p + 1) 0 ≡ before

-- what a repeat would find behind a sequence
abbrev pub kind_of : Sequence → Before
kind_of (unrepeatable t) = Nothing
kind_of (repeatable x y) = Repeatable
kind_of (repeated t) = Repeated

module _ (s : List ℕ) (known : Names) where
  abbrev pub PartAfter : ℕ → Standing
  PartAfter before area t lo top p = Part s known area t lo top p × After area before p

  -- what has been read of a sequence, its last part at p
  abbrev pub SoFar : List ℕ → Sequence → Region
  SoFar area (unrepeatable t) lo top p = Chain s known area t lo top p
  SoFar area (repeatable x y) lo top p = (mid : ℕ) × (before : ℕ) × Chain s known area x lo mid before × PartAfter before area y mid top p
  SoFar area (repeated t) lo top p = Chain s known area t lo top p

  abbrev pub SaysTurn : Told → Read (Sequence × Names) → List ℕ → ℕ → Result Step Refusal → Type 0
  SaysTurn told a area lo (Ok r) = (q : Sequence) × (r.kind ≡ kind_of q) × (a ≡ sound (q, told r.cursor.opened) r.cursor.at) × SoFar area q lo r.cursor.used r.node
  SaysTurn told a area lo (Err f) = a ≡ refused f.place f.reason

-- Parts of a sequence --------------------------------------------------------------

-- what the grammar reads where no group opens: `\R`, or an item
unfoldable pub plain_item : List ℕ → ℕ → Names → Sequence → Names → ℕ → Read (Sequence × Names)
plain_item s flags known q names at =
    if breaks_line s at then sound (repeatable (whole q) (line_break at), names) (at + 2)
    else and_then (atom s flags known (length names) at) (λ i next. sound (with_item q at i, names) next)

module _ (s : List ℕ) (flags : ℕ) (old new : List ℕ) (c : Cursor) (last : ℕ) where
  -- an item
  abbrev pub Items : Result Step Refusal → Type 0
  Items r = Does old new c.used (MovedTurn (length s) c r) (NoneOpenedTurn c r)
      ((known : Names) (told : Told) (lo : ℕ) (q : Sequence) → Chain s known old (whole q) lo c.used last
      → SaysTurn s known told (and_then (atom s flags known c.opened c.at) (λ i next. sound (with_item q c.at i, told c.opened) next)) new lo r)

  -- an item, or `\R`
  abbrev pub PlainItems : Result Step Refusal → Type 0
  PlainItems r = Does old new c.used (MovedTurn (length s) c r) (NoneOpenedTurn c r)
      ((known : Names) (told : Told) (lo : ℕ) (q : Sequence) → length (told c.opened) ≡ c.opened → Chain s known old (whole q) lo c.used last
      → SaysTurn s known told (plain_item s flags known q (told c.opened) c.at) new lo r)

  -- any part, behind what has been read of the sequence and the groups named so far
  abbrev pub SaysPart : Before → (known names : Names) → Told → Inner → Result Step Refusal → Type 0
  SaysPart kind known names told inner r = (lo : ℕ) (q : Sequence) → kind ≡ kind_of q → SoFar s known old q lo c.used last
      → SaysTurn s known told (part s flags known inner q names c.at (quantifier s c.at)) new lo r

  -- a part that is no group: it does not matter what reads the inside of one
  abbrev pub Others : Before → Result Step Refusal → Type 0
  Others kind r = Does old new c.used (MovedTurn (length s) c r) (NoneOpenedTurn c r)
      ((known : Names) (told : Told) → length (told c.opened) ≡ c.opened → (inner : Inner) → SaysPart kind known (told c.opened) told inner r)

-- a repeat of the part before it, which ends at `next`, whatever the rule
abbrev pub Repeats : (old new : List ℕ) → Cursor → (last : ℕ) → Before → (least : ℕ) → Most → Greed → Bool → ℕ → Result Step Refusal → Type 0
Repeats old new c last kind least most greed keeps next r = Does old new c.used (MovedTurn next c r) (NoneOpenedTurn c r)
    ((s : List ℕ) (known : Names) (told : Told) (lo : ℕ) (q : Sequence) → kind ≡ kind_of q → SoFar s known old q lo c.used last
    → SaysTurn s known told (repeating q c.at least most greed keeps (told c.opened) next) new lo r)

-- Groups ---------------------------------------------------------------------------

-- the end of a group of a form whose inside stands at p
abbrev pub Closes : List ℕ → (opening : ℕ) → Form → (before : ℕ) → (old new : List ℕ) → Cursor → ℕ → Result PartRead Refusal → Type 0
Closes s opening form before old new c p r = Does old new c.used (Moved (length s) c 1 r) (NoneOpened c r)
    ((known : Names) (told : Told) (lo : ℕ) (t : Rule) → Inside s known old t lo c.used p
    → Says (PartAfter s known before) told (closing s opening (enclosed form opening t) (told c.opened) c.at) new lo r)
