-- Derivations. 01: "A derivation from a start is a run of choices that carries the rule to its end", from the rule, the subject, the
-- start and the choices alone: there is no walk here, no step and no budget.
-- docs/REFERENCE.md, 13.3, 13.4, 13.6
use Rattle.std.specs.Prelude.{◌≡◌, List, ◌⊎◌, Bool, true, false, ℕ, suc, eqb}
use Rattle.syntax.specs.declared.Greed.{Greed}
use Rattle.syntax.specs.declared.Most.{Most}
use Rattle.syntax.specs.Tree.{Rule, empty, item, seq, alt, group, repeat, held, look, Branches, one, also, branch_count}
use Rattle.semantics.specs.States.{branch, again, go_on, Before, State, starting, chose, moved, closed}
use Rattle.semantics.specs.Items.{goes, try}
use Rattle.semantics.specs.Repeats.{Next, round, leave, either, decision}

-- a decision at s begins a round at t
abbrev pub Again : Next → State → State → Type 0
Again round s t = t ≡ s
Again leave s t = ⊥
Again (either g) s t = t ≡ chose (again g) s

-- a decision at s goes on at t
abbrev pub On : Next → State → State → Type 0
On round s t = ⊥
On leave s t = t ≡ s
On (either g) s t = t ≡ chose (go_on g) s

-- From the decision after n rounds to the state behind the repeat. A round takes no bytes if it ends where it began.
pub data Rounds (Body : State → State → Type 0) (least : ℕ) (most : Most) (g : Greed) : ℕ → Bool → State → State → Type 0 where
  stop : {n : ℕ} {idle : Bool} {s t : State} → On (decision least most g n idle) s t → Rounds Body least most g n idle s t
  turn : {n : ℕ} {idle : Bool} {s t u v : State} → Again (decision least most g n idle) s t → Body t u → Rounds Body least most g (suc n) (eqb t.at u.at) u v → Rounds Body least most g n idle s v

-- of all states of D, the first by priority
abbrev pub First : (State → Type 0) → State → Type 0
First D t = D t × ((u : State) → D u → (t ≡ u) ⊎ Before t.path u.path)

module _ (sub : List ℕ) where
  -- r carries s to t
  abbrev mutual
    pub Derives : Rule → State → State → Type 0
    Derives empty s t = t ≡ s
    Derives (item place i) s t = try sub i s ≡ goes t
    -- "Parts follow one another in the rule's order"
    Derives (seq a b) s t = (m : State) × Derives a s m × Derives b m t
    -- "Alternation: a branch, which may be empty"
    Derives (alt bs bar b) s t = Picks bs s t ⊎ Derives b (chose (branch (branch_count bs)) s) t
    Derives (group n a) s t = (m : State) × Derives a s m × (t ≡ closed n s.at m)
    -- "Each entry begins at n = 0."
    Derives (repeat place least most g a) s t = Rounds (Derives a) least most g 0 false s t
    -- 02 l): "A held group and `(?=` keep only the first derivation of their inside, captures included;
    Derives (held place a) s t = First (Derives a s) t
    Derives (look place false a) s t = (m : State) × First (Derives a s) m × (t ≡ moved s.at m)
    -- `(?!` holds when its inside has none, and sets nothing."
    Derives (look place true a) s t = ((m : State) → ¬ Derives a s m) × (t ≡ s)

    pub Picks : Branches → State → State → Type 0
    Picks (one a) s t = Derives a (chose (branch 0) s) t
    Picks (also bs bar b) s t = Picks bs s t ⊎ Derives b (chose (branch (branch_count bs)) s) t

-- the derivations of a rule from a start
abbrev pub Derivation : List ℕ → Rule → ℕ → State → Type 0
Derivation sub r start t = Derives sub r (starting start) t
