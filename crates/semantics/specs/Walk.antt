-- The walk. 01: it "tries derivations depth first in that order", and each of its steps is one event of a trace.
-- docs/REFERENCE.md, 14.1, 14.2, 14.4
use Rattle.std.specs.Prelude.{◌≡◌, List, [], ◌∷◌, ◌++◌, Bool, true, false, ℕ, zero, suc, ◌+◌, ◌-◌, ◌*◌, length, eqb}
use Rattle.syntax.specs.declared.Greed.{Greed}
use Rattle.syntax.specs.declared.Greed.TheVariants.{Greedy, Lazy}
use Rattle.syntax.specs.declared.Most.{Most}
use Rattle.syntax.specs.Tree.{Rule, empty, item, seq, alt, group, repeat, held, look, Branches, one, also, branch_count}
use Rattle.semantics.specs.States.{branch, again, go_on, State, starting, chose, moved, closed}
use Rattle.semantics.specs.Items.{Tried, fails, goes, toll, try}
use Rattle.semantics.specs.Repeats.{Next, round, leave, either, decision}

infixl 60 ◌▹◌
-- "One step each: a byte item tried, a place tried, a reference tried, a capturing group opened, one closed, a branch begun (two or more
-- branches), a repeat decision reached, the rule's end reached. Falling back costs nothing." A reference also pays for the bytes that it compares
-- (02, request b). Of a held part and of looking ahead (02, request l): "Entering each costs 1 step, its inner walk its usual steps, its inner end 1."
pub data Event : Type 0 where
  step : Event
  miss : ℕ → ℕ → Event  -- an item tried that failed: its place in the rule, and the position in the subject
  end : State → Event  -- the rule's end, or that of the part that is walked

abbrev pub Trace : Type 0
Trace = List Event

abbrev pub Go : Type 0
Go = State → Trace

-- each end of a trace goes on by k
unfoldable pub ◌▹◌ : Trace → Go → Trace
[] ▹ k = []
(step ∷ es) ▹ k = step ∷ (es ▹ k)
(miss place at ∷ es) ▹ k = miss place at ∷ (es ▹ k)
(end t ∷ es) ▹ k = k t ++ (es ▹ k)

unfoldable pub done : Go
done t = end t ∷ []

-- an item tried at s
unfoldable pub tried : ℕ → State → Tried → Trace
tried place s fails = miss place s.at ∷ []
tried place s (goes t) = step ∷ done t

-- so many steps, and then a trace
unfoldable pub paying : ℕ → Trace → Trace
paying zero es = es
paying (suc n) es = step ∷ paying n es

-- what a decision at s leads to: rounds are walked by r, and going on ends the repeat
unfoldable pub decide : Next → State → Go → Trace
decide round s r = r s
decide leave s r = done s
decide (either Greedy) s r = r (chose (again Greedy) s) ++ done (chose (go_on Greedy) s)
decide (either Lazy) s r = done (chose (go_on Lazy) s) ++ r (chose (again Lazy) s)

-- an inner walk up to its first end, whose step it costs, and on from there by k; where it has no end, what is otherwise
unfoldable pub to_first : Trace → Go → Trace → Trace
to_first [] k other = other
to_first (step ∷ es) k other = step ∷ to_first es k other
to_first (miss place at ∷ es) k other = miss place at ∷ to_first es k other
to_first (end t ∷ es) k other = step ∷ k t

-- whether a trace has an end
unfoldable pub ending : Trace → Bool
ending [] = false
ending (step ∷ es) = ending es
ending (miss place at ∷ es) = ending es
ending (end t ∷ es) = true

-- Entering `(?!`, whose inside has an end or not. "For f) a `(?!` that fails is a failed item too, tried when it is entered".
unfoldable pub entering : ℕ → State → Bool → Event
entering place s true = miss place s.at
entering place s false = step

module _ (body : Go) (least : ℕ) (most : Most) (g : Greed) where
  -- The walk from a repeat's decision. The first number bounds the decisions that follow one another: it never runs out
  -- (Laws.Walk, `decision-walk`).
  unfoldable pub rounds : ℕ → ℕ → Bool → State → Trace
  rounds zero n idle s = []
  rounds (suc f) n idle s = step ∷ decide (decision least most g n idle) s (λ t. body t ▹ (λ u. rounds f (suc n) (eqb t.at u.at) u))

module _ (sub : List ℕ) where
  -- more than the decisions that can follow one another: each makes a round that is owed, or takes bytes, or is the last
  unfoldable pub enough : ℕ → ℕ → ℕ
  enough least at = least + 2 * (length sub - at) + 2

  unfoldable mutual
    pub walk : Rule → State → Trace
    walk empty s = done s
    walk (item place i) s = paying (toll sub i s) (tried place s (try sub i s))
    walk (seq a b) s = walk a s ▹ (λ t. walk b t)
    walk (alt bs bar b) s = walks bs s ++ (step ∷ walk b (chose (branch (branch_count bs)) s))
    walk (group n a) s = step ∷ (walk a s ▹ (λ t. step ∷ done (closed n s.at t)))
    walk (repeat place least most g a) s = rounds (λ t. walk a t) least most g (enough least s.at) 0 false s
    walk (held place a) s = step ∷ to_first (walk a s) done []
    walk (look place false a) s = step ∷ to_first (walk a s) (λ t. done (moved s.at t)) []
    walk (look place true a) s = entering place s (ending (walk a s)) ∷ to_first (walk a s) (λ t. []) (done s)

    pub walks : Branches → State → Trace
    walks (one a) s = step ∷ walk a (chose (branch 0) s)
    walks (also bs bar b) s = walks bs s ++ (step ∷ walk b (chose (branch (branch_count bs)) s))

-- the whole walk from a start, "until nothing is left to try"
unfoldable pub trace : List ℕ → Rule → ℕ → Trace
trace sub r start = walk sub r (starting start)

-- with j steps taken, the next one reaches the end in the state t
abbrev pub Reaches : Trace → ℕ → State → Type 0
Reaches [] j t = ⊥
Reaches (e ∷ es) zero t = e ≡ end t
Reaches (e ∷ es) (suc j) t = Reaches es j t
