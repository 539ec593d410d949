-- A proposed reading. 02, request m): the office sends "the choices it found: start as two bytes, low first, then one byte a choice, 0 for going on, 1 for
-- another round, or the branch's number from 0", and the box "counts steps along that one path".
-- docs/REFERENCE.md, 16.10
use Rattle.std.specs.Prelude.{List, [], ◌∷◌, Bool, false, ℕ, zero, suc, ◌+◌, ◌*◌, length, eqb, leb, if◌then◌else◌}
use Rattle.syntax.specs.declared.Greed.{Greed}
use Rattle.syntax.specs.declared.Most.{Most}
use Rattle.syntax.specs.Tree.{Rule, empty, item, seq, alt, group, repeat, held, look, Branches, one, also, branch_count}
use Rattle.semantics.specs.States.{branch, again, go_on, State, starting, chose, closed}
use Rattle.semantics.specs.Items.{Tried, fails, goes, toll, try}
use Rattle.semantics.specs.Repeats.{Next, round, leave, either, decision}

-- Paths --------------------------------------------------------------------------

infixl 60 ◌▸◌
-- where one path leads: steps, one after another, and then its end
pub data Trail : Type 0 where
  step_then : Trail → Trail
  arrives : State → List ℕ → Trail  -- behind what is followed: the state, and the choices left
  strays : Trail  -- no further: an item fails, or the next choice is missing or not allowed

abbrev pub Follow : Type 0
Follow = State → List ℕ → Trail

-- where a path arrives, it goes on by k
unfoldable pub ◌▸◌ : Trail → Follow → Trail
step_then p ▸ k = step_then (p ▸ k)
arrives t cs ▸ k = k t cs
strays ▸ k = strays

-- so many steps, and then a path
unfoldable pub steps_then : ℕ → Trail → Trail
steps_then zero p = p
steps_then (suc n) p = step_then (steps_then n p)

-- an item tried
unfoldable pub behind : Tried → List ℕ → Trail
behind fails cs = strays
behind (goes t) cs = arrives t cs

-- "A choice is written only where two or more are allowed, greedy or lazy alike": there the next one is read
unfoldable pub choosing : List ℕ → (ℕ → List ℕ → Trail) → Trail
choosing [] k = strays
choosing (c ∷ cs) k = k c cs

-- "0 for going on, 1 for another round"
unfoldable pub either_way : ℕ → Greed → State → List ℕ → Follow → Trail
either_way zero g s cs r = arrives (chose (go_on g) s) cs
either_way (suc zero) g s cs r = r (chose (again g) s) cs
either_way (suc (suc c)) g s cs r = strays

-- what a decision at s leads to: rounds are followed by r
unfoldable pub settling : Next → State → List ℕ → Follow → Trail
settling round s cs r = r s cs
settling leave s cs r = arrives s cs
settling (either g) s cs r = choosing cs (λ c ds. either_way c g s ds r)

module _ (body : Follow) (least : ℕ) (most : Most) (g : Greed) where
  -- The path from a repeat's decision: the choice "is read after a repeat decision's step". The first number bounds the decisions that follow one
  -- another: each makes a round that is owed, or reads a choice, or is the last, so that it never runs out (Laws.Following, `laps-along`).
  unfoldable pub laps : ℕ → ℕ → Bool → State → List ℕ → Trail
  laps zero n idle s cs = strays
  laps (suc f) n idle s cs = step_then (settling (decision least most g n idle) s cs (λ t ds. body t ds ▸ (λ u es. laps f (suc n) (eqb t.at u.at) u es)))

module _ (sub : List ℕ) where
  unfoldable mutual
    -- the one path through a rule that the choices tell
    pub follow : Rule → State → List ℕ → Trail
    follow empty s cs = arrives s cs
    follow (item place i) s cs = steps_then (suc (toll sub i s)) (behind (try sub i s) cs)
    follow (seq a b) s cs = follow a s cs ▸ (λ t ds. follow b t ds)
    -- read "before a branch's" step
    follow (alt bs bar b) s cs = choosing cs (λ c ds. if eqb c (branch_count bs) then step_then (follow b (chose (branch (branch_count bs)) s) ds) else follow_in bs c s ds)
    follow (group n a) s cs = step_then (follow a s cs ▸ (λ t ds. step_then (arrives (closed n s.at t) ds)))
    follow (repeat place least most g a) s cs = laps (λ t ds. follow a t ds) least most g (suc (least + length cs)) 0 false s cs
    -- 02 l)'s forms are not followed: a rule that has one is refused with 35
    follow (held place a) s cs = strays
    follow (look place negative a) s cs = strays

    -- the branch of a number
    pub follow_in : Branches → ℕ → State → List ℕ → Trail
    follow_in (one a) c s cs = if eqb c 0 then step_then (follow a (chose (branch 0) s) cs) else strays
    follow_in (also bs bar b) c s cs = if eqb c (branch_count bs) then step_then (follow b (chose (branch (branch_count bs)) s) cs) else follow_in bs c s cs

-- the path from a start to the rule's end, which costs its step
unfoldable pub path_of : List ℕ → Rule → (start : ℕ) (choices : List ℕ) → Trail
path_of sub r start choices = follow sub r (starting start) choices ▸ (λ t ds. step_then (arrives t ds))

-- A check --------------------------------------------------------------------------

-- "It says 'a reading', never 'the match'."
pub data Finding : Type 0 where
  a_reading : ℕ → State → Finding  -- the start, and the state at the end
  no_reading : Finding
  exhausts : ℕ → Finding  -- the start

-- of all three the steps, those up to where it was seen
pub record Check : Type 0 where
  pub finding : Finding
  pub steps : ℕ

-- "these choices, all used"
unfoldable pub unless_left : (start : ℕ) → State → List ℕ → Finding
unless_left start t [] = a_reading start t
unless_left start t (c ∷ cs) = no_reading

unfoldable pub one_more : Check → Check
one_more a = record { finding = a.finding; steps = suc a.steps }

-- "answers exhausted when it needs one beyond its budget"
unfoldable pub within : (start budget : ℕ) → Trail → Check
within start budget (arrives t cs) = record { finding = unless_left start t cs; steps = 0 }
within start budget strays = record { finding = no_reading; steps = 0 }
within start zero (step_then p) = record { finding = exhausts start; steps = 0 }
within start (suc budget) (step_then p) = one_more (within start budget p)

-- "A start or choices cut short or not allowed are 'no reading'": with no start there is no step
unfoldable pub startless : Check
startless = record { finding = no_reading; steps = 0 }

-- "start as two bytes, low first"
unfoldable pub start_of : (low high : ℕ) → ℕ
start_of low high = low + 256 * high

-- a rule on a subject, within a budget, and the bytes that were sent
unfoldable pub check : List ℕ → Rule → (budget : ℕ) (proposal : List ℕ) → Check
check sub r budget [] = startless
check sub r budget (low ∷ []) = startless
check sub r budget (low ∷ high ∷ choices) =
    let start = start_of low high in
    if leb start (length sub) then within start budget (path_of sub r start choices) else startless
