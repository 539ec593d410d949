-- How an opening is found: the machine is followed from a node over every way that takes no byte, until it falls back.
use Rattle.std.specs.Prelude.{◌≡◌, List, [], ◌∷◌, Option, IfSome, Bool, true, false, ◌||◌, ℕ, zero, suc, ◌+◌, ◌-◌, ◌≤◌, ◌<◌, length, get_or, drop, set}
use Rattle.charset.specs.Class.{has}
use Rattle.machine.specs.Moves.{Bytes, Stack, go, takes, fall}
use Rattle.machine.specs.Ready.{Leads}
use Rattle.openings.specs.declared.nodes.Seen.{Seen}
use Rattle.openings.specs.declared.nodes.Seen.TheVariants.{Leaf, Byte, On, Both, ByteOn}
use Rattle.openings.specs.declared.finding.Search.{Search}
use Rattle.openings.specs.Openings.{Outside}

-- Nodes that fail -----------------------------------------------------------------

-- From a node, over any registers and any stack, the machine makes n steps, none of which is an end, and falls back.
pub record Fails (p sub : List ℕ) (at pc n : ℕ) : Type 0 where
  pub back : (regs : List ℕ) (st : Stack) → Leads p sub (go pc at regs st) n (fall p regs st)

-- Nodes one after the other, each of them tried when the one before it has failed: n steps in all.
abbrev pub AllFail : (p sub : List ℕ) (at : ℕ) → List ℕ → ℕ → Type 0
AllFail p sub at [] n = n ≡ 0
AllFail p sub at (pc ∷ pcs) n = (a : ℕ) × (b : ℕ) × (n ≡ a + b) × Fails p sub at pc a × AllFail p sub at pcs b

-- What is seen of a node ----------------------------------------------------------

-- Where the byte is not in the set f, the node makes c steps and then does as these nodes do, one after the other.
pub record Reduces (p : List ℕ) (pc : ℕ) (f : ℕ → Bool) (nexts : List ℕ) (c : ℕ) : Type 0 where
  pub few : c ≤ 2
  pub fails : (sub : List ℕ) (at n : ℕ) → 1 ≤ at → takes sub f at ≡ false → AllFail p sub at nexts n → Fails p sub at pc (c + n)

-- a node that looks at no byte
abbrev pub nobody : ℕ → Bool
nobody x = false

abbrev pub Sees : (p : List ℕ) (pc : ℕ) → Seen → Type 0
Sees p pc (Leaf c) = Reduces p pc nobody [] c
Sees p pc (Byte c base) = (base + 8 ≤ length p) × Reduces p pc (has (drop base p)) [] c
Sees p pc (On c next) = Reduces p pc nobody (next ∷ []) c
Sees p pc (Both c first second) = Reduces p pc nobody (first ∷ second ∷ []) c
Sees p pc (ByteOn c base next) = (base + 8 ≤ length p) × Reduces p pc (has (drop base p)) (next ∷ []) c

-- if anything is known of it
abbrev pub Means : (p : List ℕ) (pc : ℕ) → Option Seen → Type 0
Means p pc r = IfSome r (Sees p pc)

-- The search ------------------------------------------------------------------------

-- the nodes that wait, the topmost first
unfoldable pub pending_of : List ℕ → ℕ → List ℕ
pending_of held zero = []
pending_of held (suc h) = get_or held h 0 ∷ pending_of held h

abbrev pub waiting : Search → List ℕ
waiting s = pending_of s.pending s.height

abbrev pub counted : Search → ℕ → Search
counted s c = record { pending = s.pending; height = s.height - 1; cost = s.cost + c; any = s.any; set = s.set }

abbrev pub pushed : Search → ℕ → Search
pushed s pc = record { pending = set s.pending s.height pc; height = s.height + 1; cost = s.cost; any = s.any; set = s.set }

-- the bytes of the class at base begin too
pub record Widened (p : List ℕ) (s : Search) (base : ℕ) (r : Search) : Type 0 where
  pub pending : r.pending ≡ s.pending
  pub height : r.height ≡ s.height
  pub cost : r.cost ≡ s.cost
  pub any : r.any ≡ true
  pub both : (x : ℕ) → x < 256 → has r.set x ≡ (has (drop base p) x || has s.set x)

-- What a search knows: if all that waits fails after n steps, then the rule does so after these and those that are counted.
pub record Told (p : List ℕ) (entry : ℕ) (s : Search) : Type 0 where
  pub held : length s.pending ≡ 16
  pub low : s.height ≤ 16
  pub tells : (sub : List ℕ) (at n : ℕ) → Bytes sub → 1 ≤ at → Outside s.set s.any sub at → AllFail p sub at (waiting s) n → Fails p sub at entry (s.cost + n)

-- the topmost node was looked at
pub record Follows (p : List ℕ) (s r : Search) : Type 0 where
  pub few : r.cost ≤ s.cost + 2
  pub follows : (entry : ℕ) → Told p entry s → Told p entry r

-- if all that is needed is known
abbrev pub Turned : (p : List ℕ) (s : Search) → Option Search → Type 0
Turned p s r = IfSome r (Follows p s)
