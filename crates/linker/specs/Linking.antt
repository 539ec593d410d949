-- What linking promises: whatever stood in the area as parts stands there compiled, and nothing outside changed.
-- docs/REFERENCE.md, 4.5
use Rattle.std.specs.Prelude.{◌≡◌, List, ℕ, max, Option, Some, Result, Ok, Err, ◌+◌, ◌*◌, ◌≤◌, ◌<◌, get_or, length}
use Rattle.std.proofs.Math.Option as maybe
use Rattle.std.proofs.Math.Option.{none, some}
use Rattle.syntax.specs.declared.Reason.TheVariants.{NoSuchGroup}
use Rattle.syntax.specs.declared.Refusal.{Refusal}
use Rattle.syntax.specs.Limits.{group_limit, rule_area_need, registers, spans_length}
use Rattle.syntax.specs.Names.{Names}
use Rattle.syntax.specs.Tree.{Rule, Branches}
use Rattle.syntax.specs.Reading.{unresolved, unresolved_in}
use Rattle.syntax.specs.WellFormed.{Proper, Propers, height, heights}
use Rattle.syntax.specs.Compiled.{Compiled, CompiledBranches}
use Rattle.name_table.specs.Table.{Spelled}
use Rattle.linker.specs.Nodes.{Region, Inside, Several}

-- What is asked ---------------------------------------------------------------

-- the tree is proper, and the registers from r on are enough for it
pub record Fits (groups r : ℕ) (t : Rule) : Type 0 where
  pub few : groups ≤ group_limit
  pub proper : Proper groups t
  pub room : r + 2 * height t ≤ registers

pub record FitAll (groups r : ℕ) (bs : Branches) : Type 0 where
  pub few : groups ≤ group_limit
  pub proper : Propers groups bs
  pub room : r + 2 * heights bs ≤ registers

-- a tree that fits stands at p, within the area
pub record Stands (Holds : Rule → Region) (groups r : ℕ) (a : List ℕ) (p : ℕ) : Type 0 where
  pub tree : Rule
  pub lo : ℕ
  pub top : ℕ
  pub holds : Holds tree lo top p
  pub fits : Fits groups r tree
  pub within : top ≤ length a
  pub small : top ≤ rule_area_need

pub record StandAll (s : List ℕ) (known : Names) (groups r : ℕ) (a : List ℕ) (p : ℕ) : Type 0 where
  pub branches : Branches
  pub lo : ℕ
  pub top : ℕ
  pub holds : Several s known a branches lo top p
  pub fits : FitAll groups r branches
  pub within : top ≤ length a
  pub small : top ≤ rule_area_need

-- What is asked of a whole rule s: the table spells the names of its groups, with which it stands.
pub record Linkable (s : List ℕ) (groups : ℕ) (table a : List ℕ) (p : ℕ) : Type 0 where
  pub known : Names
  pub many : length known ≡ groups
  pub spelled : Spelled s known table
  pub room : 2 * groups ≤ length table
  pub stands : Stands (Inside s known a) groups spans_length a p

-- What is promised ------------------------------------------------------------

-- nothing outside a region changed
pub record Outside (lo top : ℕ) (old new : List ℕ) : Type 0 where
  pub below : (i : ℕ) → i < lo → get_or new i 0 ≡ get_or old i 0
  pub above : (i : ℕ) → top ≤ i → get_or new i 0 ≡ get_or old i 0
  pub long : length new ≡ length old

-- The place of the first reference to no group. What stands further left comes before what was noted so far.
unfoldable pub noted : maybe.Option ℕ → Option ℕ → Option ℕ
noted none sofar = sofar
noted (some place) sofar = Some place

-- the tree stands compiled at pc, unless it has a reference to no group
pub record Made (groups r : ℕ) (t : Rule) (lo top : ℕ) (old new : List ℕ) (next : ℕ) (sofar : Option ℕ) (pc : ℕ) (found : Option ℕ) : Type 0 where
  pub outside : Outside lo top old new
  pub near : pc ≤ max next top
  pub stands : unresolved groups t ≡ none → Compiled new lo top t pc next r
  pub first : found ≡ noted (unresolved groups t) sofar

-- the same of branches, the last of which goes on to the branch at `other`
pub record MadeAll (groups r : ℕ) (bs : Branches) (lo top : ℕ) (old new : List ℕ) (other next : ℕ) (sofar : Option ℕ) (pc : ℕ) (found : Option ℕ) : Type 0 where
  pub outside : Outside lo top old new
  pub near : pc ≤ top
  pub stands : unresolved_in groups bs ≡ none → CompiledBranches new lo top bs pc other next r
  pub first : found ≡ noted (unresolved_in groups bs) sofar

-- whatever tree stood at p is made
unfoldable pub Links : (Holds : Rule → Region) (groups r : ℕ) (old new : List ℕ) (p next : ℕ) (sofar : Option ℕ) (pc : ℕ) (found : Option ℕ) → Type 0
Links Holds groups r old new p next sofar pc found = (t : Rule) (lo top : ℕ) → Holds t lo top p → Fits groups r t → Made groups r t lo top old new next sofar pc found

unfoldable pub LinksAll : (s : List ℕ) (known : Names) (groups r : ℕ) (old new : List ℕ) (p other next : ℕ) (sofar : Option ℕ) (pc : ℕ) (found : Option ℕ) → Type 0
LinksAll s known groups r old new p other next sofar pc found = (bs : Branches) (lo top : ℕ) → Several s known old bs lo top p → FitAll groups r bs → MadeAll groups r bs lo top old new other next sofar pc found

-- A whole rule: the end follows it, at position 0, and its registers are those behind the captures.
pub record Entered (groups : ℕ) (t : Rule) (lo top : ℕ) (new : List ℕ) (pc : ℕ) : Type 0 where
  pub resolved : unresolved groups t ≡ none
  pub compiled : Compiled new lo top t pc 0 spans_length
  pub near : pc ≤ top

-- its entry, or the first place of a reference to no group
abbrev pub Whole : ℕ → Rule → (lo top : ℕ) → List ℕ → Result ℕ Refusal → Type 0
Whole groups t lo top new (Ok pc) = Entered groups t lo top new pc
Whole groups t lo top new (Err r) = (unresolved groups t ≡ some r.place) × (r.reason ≡ NoSuchGroup)

-- whatever tree stood at p with the names that the table spells
unfoldable pub LinksWhole : (s : List ℕ) (groups : ℕ) (table old new : List ℕ) (p : ℕ) → Result ℕ Refusal → Type 0
LinksWhole s groups table old new p l =
    (known : Names) → length known ≡ groups → Spelled s known table → (t : Rule) (lo top : ℕ) → Inside s known old t lo top p → Fits groups spans_length t → Outside lo top old new × Whole groups t lo top new l
