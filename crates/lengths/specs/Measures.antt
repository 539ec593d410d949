-- What measuring promises: whatever tree stands at a position, the least length that was found is the tree's, and the places are those of its first
-- reference, its first idle repeat, and of what a check cannot follow: its first held part or looking ahead, and its first bar before a 257th branch.
-- docs/REFERENCE.md, 10.6, 11.2
use Rattle.std.specs.Prelude.{◌≡◌, ⊤, Bool, true, ◌&&◌, ◌||◌, List, Option, None, Some, Result, Ok, Err, ℕ, min, ◌+◌, ◌*◌, ◌≤◌, eqb, ltb, get_or, length, if◌then◌else◌, unwrap_or}
use Rattle.std.specs.Option.{option_or}
use Rattle.std.proofs.Math.Option.{none, some}
use Rattle.syntax.specs.Limits.{unset}
use Rattle.syntax.specs.Read.{Read, refused}
use Rattle.syntax.specs.declared.Refusal.{Refusal}
use Rattle.syntax.specs.Names.{Names}
use Rattle.syntax.specs.Tree.{Rule, Branches, branch_count}
use Rattle.syntax.specs.Lengths.{capped, least_length, shortest}
use Rattle.syntax.specs.Reading.{unresolved, unresolved_in, idle, idle_in, profiled}
use Rattle.syntax.specs.Checkable.{unfollowed, unfollowed_in, crowded_at, crowded, crowded_in, uncheckable}
use Rattle.syntax.specs.WellFormed.{Proper, Propers, levels, levels_in}
use Rattle.linker.specs.Nodes.{Region, Inside, Preceding}
use Rattle.linker.specs.Linking.{noted}
use Rattle.lengths.specs.declared.Measured.{Measured}

-- What the small functions find ------------------------------------------------------

pub record IsNothing (m : Measured) : Type 0 where
  pub least : m.least ≡ 0
  pub reference : m.reference ≡ None
  pub idle : m.idle ≡ None
  pub form : m.form ≡ None
  pub crowd : m.crowd ≡ None

-- one part and what follows it
pub record Joined (a b m : Measured) : Type 0 where
  pub least : m.least ≡ capped (a.least + b.least)
  pub reference : m.reference ≡ option_or a.reference b.reference
  pub idle : m.idle ≡ option_or a.idle b.idle
  pub form : m.form ≡ option_or a.form b.form
  pub crowd : m.crowd ≡ option_or a.crowd b.crowd

-- one branch, the bar behind it if a 257th follows, and the branches behind that
pub record Shorter (a : Measured) (bar : Option ℕ) (b m : Measured) : Type 0 where
  pub least : m.least ≡ min a.least b.least
  pub reference : m.reference ≡ option_or a.reference b.reference
  pub idle : m.idle ≡ option_or a.idle b.idle
  pub form : m.form ≡ option_or a.form b.form
  pub crowd : m.crowd ≡ option_or a.crowd (option_or bar b.crowd)

-- the repeat at p, if its body's least length is such that it is idle
unfoldable pub idle_at : List ℕ → (p body : ℕ) → Option ℕ
idle_at a p body = if eqb (get_or a (p + 3) 0) unset && eqb body 0 then Some (get_or a (p + 5) 0) else None

pub record Repeated (a : List ℕ) (p : ℕ) (body m : Measured) : Type 0 where
  pub least : m.least ≡ capped (get_or a (p + 2) 0 * body.least)
  pub reference : m.reference ≡ body.reference
  pub idle : m.idle ≡ option_or body.idle (idle_at a p body.least)
  pub form : m.form ≡ body.form
  pub crowd : m.crowd ≡ body.crowd

-- what stands between an end and an opening, by its kind and by what was found of its inside: looking ahead takes no bytes, and all but a group that
-- captures have a place that a check cannot follow
pub record Enclosed (a : List ℕ) (p kind : ℕ) (within m : Measured) : Type 0 where
  pub least : m.least ≡ (if ltb kind 15 then within.least else 0)
  pub reference : m.reference ≡ within.reference
  pub idle : m.idle ≡ within.idle
  pub form : m.form ≡ (if eqb kind 4 then within.form else Some (min (get_or a (p + 3) 0) (unwrap_or within.form (get_or a (p + 3) 0))))
  pub crowd : m.crowd ≡ within.crowd

-- the kinds of items that take bytes, `\R` among them, and of references
abbrev pub takes_bytes : ℕ → Bool
takes_bytes kind = eqb kind 0 || eqb kind 12

abbrev pub refers_back : ℕ → Bool
refers_back kind = eqb kind 11 || eqb kind 2

-- the place of `\R`
unfoldable pub form_at : List ℕ → (p kind : ℕ) → Option ℕ
form_at a p kind = if eqb kind 12 then Some (get_or a (p + 2) 0) else None

-- an item or `\R`, by its kind
pub record Singled (a : List ℕ) (p kind : ℕ) (m : Measured) : Type 0 where
  pub least : m.least ≡ (if takes_bytes kind then 1 else 0)
  pub reference : m.reference ≡ (if takes_bytes kind then None else if refers_back kind then Some (get_or a (p + 2) 0) else None)
  pub idle : m.idle ≡ None
  pub form : m.form ≡ form_at a p kind
  pub crowd : m.crowd ≡ None

-- What is asked ------------------------------------------------------------------------

-- what stands in an area as a part, as a sequence or inside a group
abbrev pub Standing : Type 1
Standing = (rule : List ℕ) → Names → (area : List ℕ) → Rule → Region

-- a tree stands at p, in which so many levels may stand, its repeats' bounds within theirs
pub record Deep (Stands : Standing) (a : List ℕ) (p depth : ℕ) : Type 0 where
  pub rule : List ℕ
  pub known : Names
  pub tree : Rule
  pub lo : ℕ
  pub top : ℕ
  pub holds : Stands rule known a tree lo top p
  pub within : top ≤ length a
  pub groups : ℕ
  pub proper : Proper groups tree
  pub deep : levels tree ≤ depth

pub record DeepBranches (a : List ℕ) (p depth : ℕ) : Type 0 where
  pub rule : List ℕ
  pub known : Names
  pub branches : Branches
  pub bar : ℕ
  pub lo : ℕ
  pub top : ℕ
  pub holds : Preceding rule known a branches bar lo top p
  pub within : top ≤ length a
  pub groups : ℕ
  pub proper : Propers groups branches
  pub deep : levels_in branches ≤ depth

-- What is promised -----------------------------------------------------------------------

-- m is what there is to find of a tree
pub record Of (t : Rule) (m : Measured) : Type 0 where
  pub least : m.least ≡ least_length t
  pub reference : m.reference ≡ noted (unresolved 0 t) None
  pub idle : m.idle ≡ noted (idle t) None
  pub form : m.form ≡ noted (unfollowed t) None
  pub crowd : m.crowd ≡ noted (crowded t) None

-- of branches and the bar behind them, behind which `behind` was found
pub record OfBranches (bs : Branches) (bar : ℕ) (behind m : Measured) : Type 0 where
  pub least : m.least ≡ min (shortest bs) behind.least
  pub reference : m.reference ≡ noted (unresolved_in 0 bs) behind.reference
  pub idle : m.idle ≡ noted (idle_in bs) behind.idle
  pub form : m.form ≡ noted (unfollowed_in bs) behind.form
  pub crowd : m.crowd ≡ noted (crowded_in bs) (noted (crowded_at (branch_count bs) bar) behind.crowd)

-- whatever tree stands at p
unfoldable pub Finds : Standing → List ℕ → ℕ → Measured → Type 0
Finds Stands a p m = (rule : List ℕ) (known : Names) (groups : ℕ) (t : Rule) (lo top : ℕ) → Proper groups t → Stands rule known a t lo top p → Of t m

unfoldable pub FindsBranches : List ℕ → ℕ → (behind m : Measured) → Type 0
FindsBranches a p behind m = (rule : List ℕ) (known : Names) (groups : ℕ) (bs : Branches) (bar lo top : ℕ) → Propers groups bs → Preceding rule known a bs bar lo top p → OfBranches bs bar behind m

-- what the profile, asked for or not, makes of a tree, whatever its reading was up to then
abbrev pub Judged : Bool → Rule → Result ⊤ Refusal → Type 0
Judged strict t (Ok x) = (rest : Read (Rule × ℕ)) → profiled strict t rest ≡ rest
Judged strict t (Err f) = (rest : Read (Rule × ℕ)) → profiled strict t rest ≡ refused f.place f.reason

unfoldable pub Judges : Bool → List ℕ → ℕ → Result ⊤ Refusal → Type 0
Judges strict a p r = (rule : List ℕ) (known : Names) (groups : ℕ) (t : Rule) (lo top : ℕ) → Proper groups t → Inside rule known a t lo top p → Judged strict t r

-- whether a check, asked for or not, can follow a tree
abbrev pub Followed : Bool → Rule → Result ⊤ Refusal → Type 0
Followed checked t (Ok x) = checked ≡ true → uncheckable t ≡ none
Followed checked t (Err f) = (checked ≡ true) × (uncheckable t ≡ some (f.place, f.reason))

unfoldable pub Follows : Bool → List ℕ → ℕ → Result ⊤ Refusal → Type 0
Follows checked a p r = (rule : List ℕ) (known : Names) (groups : ℕ) (t : Rule) (lo top : ℕ) → Proper groups t → Inside rule known a t lo top p → Followed checked t r
