-- What the readers of sequences, groups and alternations promise: their answers are those of the grammar, and the tree of a sound one
-- stands in the area.
-- docs/REFERENCE.md, 4
use Rattle.std.specs.Prelude.{◌≡◌, List, Result, Ok, Err, ℕ, ◌≤◌, length, get_or}
use Rattle.syntax.specs.declared.Refusal.{Refusal}
use Rattle.syntax.specs.Limits.{spans_length}
use Rattle.syntax.specs.Read.{sound, refused}
use Rattle.syntax.specs.Tree.{Rule, one}
use Rattle.syntax.specs.Names.{Names}
use Rattle.syntax.specs.Grammar.{grouped, branch, further, alternation, inside}
use Rattle.syntax.specs.Reading.{parsed}
use Rattle.name_table.specs.Table.{names_in, NamesFit}
use Rattle.linker.specs.Nodes.{Chain, Inside}
use Rattle.parts.specs.declared.Cursor.{Cursor}
use Rattle.parts.specs.declared.Part.{Part}
use Rattle.parts.specs.declared.Step.{Step}
use Rattle.parts.specs.declared.Before.{Before}
use Rattle.parts.specs.Says.{Moved, MovedTurn, Does, Says, PartAfter, SaysPart}
use Rattle.reader.specs.Areas.{table_start}

-- The names of the groups ----------------------------------------------------------

-- a reader can name groups in the table, in which the names of those opened so far stand
pub record Naming (s table : List ℕ) (c : Cursor) : Type 0 where
  pub wide : spans_length ≤ length table
  pub fit : NamesFit s table c.opened

-- the names of the groups then opened stand in the table
abbrev pub Named : (s table : List ℕ) → Result Part Refusal → Type 0
Named s table (Ok r) = NamesFit s table r.cursor.opened
Named s table (Err f) = Unit

abbrev pub NamedTurn : (s table : List ℕ) → Result Step Refusal → Type 0
NamedTurn s table (Ok r) = NamesFit s table r.cursor.opened
NamedTurn s table (Err f) = Unit

-- The cycle ------------------------------------------------------------------------

-- `names` and `table` are the table of names before and after
module _ (s : List ℕ) (flags depth : ℕ) (old new names table : List ℕ) (c : Cursor) where
  -- a group, behind the part at `before`
  abbrev pub Groups : ℕ → Result Part Refusal → Type 0
  Groups before r = Does old new c.used (Moved (length s) c 1 r) (Named s table r)
      ((known : Names) → Says (PartAfter s known before) (names_in s table) (grouped s (inside depth s flags known) c.at (names_in s names c.opened)) new c.used r)

  -- one part of a sequence
  abbrev pub Turns : (last : ℕ) → Before → Result Step Refusal → Type 0
  Turns last kind r = Does old new c.used (MovedTurn (length s) c r) (NamedTurn s table r)
      ((known : Names) → SaysPart s flags old new c last kind known (names_in s names c.opened) (names_in s table) (inside depth s flags known) r)

  abbrev pub Branch : Result Part Refusal → Type 0
  Branch r = Does old new c.used (Moved (length s) c 0 r) (Named s table r)
      ((known : Names) → Says (Chain s known) (names_in s table) (branch s flags known (inside depth s flags known) (names_in s names c.opened) c.at) new c.used r)

  -- the further branches, behind the first
  abbrev pub Furthers : ℕ → Result Part Refusal → Type 0
  Furthers first r = Does old new c.used (Moved (length s) c 0 r) (Named s table r)
      ((known : Names) (lo : ℕ) (t : Rule) → Chain s known old t lo c.used first
      → Says (Inside s known) (names_in s table) (further (length s) s flags known (inside depth s flags known) (one t) (names_in s names c.opened) c.at) new lo r)

  abbrev pub Alternates : Result Part Refusal → Type 0
  Alternates r = Does old new c.used (Moved (length s) c 0 r) (Named s table r)
      ((known : Names) → Says (Inside s known) (names_in s table) (alternation s flags known (inside depth s flags known) (names_in s names c.opened) c.at) new c.used r)

-- The whole rule -------------------------------------------------------------------

-- The rule's reading is what r says. The tree of a sound one stands from position 1 on, behind the end's node, and the names stand in the table.
abbrev pub Reads : List ℕ → ℕ → (area table : List ℕ) → Result Part Refusal → Type 0
Reads s flags area table (Ok r) = record {
  is : (known : Names) → (tree : Rule) × (parsed s flags known ≡ sound (tree, names_in s table r.cursor.opened) r.cursor.at) × Inside s known area tree 1 r.cursor.used r.node;
  end : get_or area 0 0 ≡ 9;
  fit : NamesFit s table r.cursor.opened;
  within : r.cursor.used ≤ length area;
  small : r.cursor.used ≤ table_start;
}
Reads s flags area table (Err f) = (known : Names) → parsed s flags known ≡ refused f.place f.reason
