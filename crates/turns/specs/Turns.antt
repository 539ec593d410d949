-- Following one path through a compiled rule, by the choices that were sent. Nothing is ever gone back to: registers are enough, and there is no stack.
use Rattle.std.specs.Prelude.{◌≡◌, List, [], ◌∷◌, Bool, false, ℕ, zero, suc, ◌+◌, ◌≤◌, length, get_or, take, eqb}
use Rattle.std.proofs.Math.Option.{Option, none, some}
use Rattle.syntax.specs.Limits.{spans_length, registers}
use Rattle.semantics.specs.States.{State}
use Rattle.semantics.specs.Items.{Tried, fails, goes}
use Rattle.semantics.specs.Repeats.{Next, round, leave, either, decision}
use Rattle.semantics.specs.Proposals.{Trail, step_then, arrives, strays, steps_then}
use Rattle.machine.specs.Code.{Program, Repeat, Instruction, tests, opens, closes, branches, last_branch, enters, loops, runs, ends, breaks, marks, keeps, returns, forbids, refutes, repeat_at, decode, RepeatFits, Fits}
use Rattle.machine.specs.Moves.{set2, state, bump, tested, price}

-- what a turn leads to
pub data Turn : Type 0 where
  onward : (more pc at : ℕ) → (regs choices : List ℕ) → Turn  -- in a step and so many more, at another node
  astray : (steps : ℕ) → Turn  -- no further, after so many steps
  finished : Turn  -- at the rule's end

-- Branches --------------------------------------------------------------------

-- the body of a branch, and the branch after it
abbrev pub body_here : Instruction → Option ℕ
body_here (branches body other) = some body
body_here (last_branch body) = some body
body_here (tests x place next) = none
body_here (opens i body) = none
body_here (closes i slot next) = none
body_here (enters q) = none
body_here (loops q) = none
body_here (runs q) = none
body_here ends = none
body_here (breaks place next) = none
body_here (marks i body) = none
body_here (keeps i next) = none
body_here (returns i next) = none
body_here (forbids i body next) = none
body_here (refutes i place) = none

abbrev pub other_than : Instruction → Option ℕ
other_than (branches body other) = some other
other_than (last_branch body) = none
other_than (tests x place next) = none
other_than (opens i body) = none
other_than (closes i slot next) = none
other_than (enters q) = none
other_than (loops q) = none
other_than (runs q) = none
other_than ends = none
other_than (breaks place next) = none
other_than (marks i body) = none
other_than (keeps i next) = none
other_than (returns i next) = none
other_than (forbids i body next) = none
other_than (refutes i place) = none

unfoldable pub on_from : Option ℕ → (ℕ → Option ℕ) → Option ℕ
on_from none f = none
on_from (some pc) f = f pc

module _ (p : Program) where
  -- the body of the branch of a number, counted from the branch at pc
  unfoldable pub body_of : (number pc : ℕ) → Option ℕ
  body_of zero pc = body_here (decode p pc)
  body_of (suc c) pc = on_from (other_than (decode p pc)) (λ q. body_of c q)

  -- Turns -----------------------------------------------------------------------

  unfoldable pub branching : Option ℕ → (at : ℕ) → (regs choices : List ℕ) → Turn
  branching none at regs cs = astray 0
  branching (some body) at regs cs = onward 0 body at regs cs

  -- the choice is read before the branch's step
  unfoldable pub choosing_branch : (pc at : ℕ) → (regs choices : List ℕ) → Turn
  choosing_branch pc at regs [] = astray 0
  choosing_branch pc at regs (c ∷ cs) = branching (body_of c pc) at regs cs

  -- a round of a repeat begins, after n
  abbrev pub beginning : Repeat → (n at : ℕ) → (regs choices : List ℕ) → Turn
  beginning q n at regs cs = onward 0 q.body at (set2 regs q.register (bump n) at) cs

  unfoldable pub either_turn : Repeat → (n at : ℕ) → (regs choices : List ℕ) → Turn
  either_turn q n at regs [] = astray 1
  either_turn q n at regs (zero ∷ cs) = onward 0 q.next at regs cs
  either_turn q n at regs (suc zero ∷ cs) = beginning q n at regs cs
  either_turn q n at regs (suc (suc c) ∷ cs) = astray 1

  -- the choice is read after the decision's step
  unfoldable pub settled : Next → Repeat → (n at : ℕ) → (regs choices : List ℕ) → Turn
  settled round q n at regs cs = beginning q n at regs cs
  settled leave q n at regs cs = onward 0 q.next at regs cs
  settled (either g) q n at regs cs = either_turn q n at regs cs

  unfoldable pub deciding : (q n : ℕ) → Bool → (at : ℕ) → (regs choices : List ℕ) → Turn
  deciding q n still at regs cs = settled (decision (repeat_at p q).least (repeat_at p q).most (repeat_at p q).greed n still) (repeat_at p q) n at regs cs

  unfoldable pub behind_item : (cost : ℕ) → Tried → (next : ℕ) → (regs choices : List ℕ) → Turn
  behind_item cost fails next regs cs = astray (suc cost)
  behind_item cost (goes t) next regs cs = onward cost next t.at regs cs

  module _ (sub : List ℕ) where
    -- A run is taken as a repeat: its numbers are the same. Held parts and looking ahead are not followed.
    unfoldable pub turn_by : Instruction → (pc at : ℕ) → (regs choices : List ℕ) → Turn
    turn_by (tests x place next) pc at regs cs = behind_item (price sub x (state at regs)) (tested sub x (state at regs)) next regs cs
    turn_by (opens i body) pc at regs cs = onward 0 body at (set2 regs i at 0) cs
    turn_by (closes i slot next) pc at regs cs = onward 0 next at (set2 regs slot (get_or regs i 0) at) cs
    turn_by (branches body other) pc at regs cs = choosing_branch pc at regs cs
    turn_by (last_branch body) pc at regs cs = astray 0
    turn_by (enters q) pc at regs cs = deciding q 0 false at regs cs
    turn_by (loops q) pc at regs cs = deciding q (get_or regs (repeat_at p q).register 0) (eqb (get_or regs ((repeat_at p q).register + 1) 0) at) at regs cs
    turn_by (runs q) pc at regs cs = deciding q 0 false at regs cs
    turn_by ends pc at regs cs = finished
    turn_by (breaks place next) pc at regs cs = astray 0
    turn_by (marks i body) pc at regs cs = astray 0
    turn_by (keeps i next) pc at regs cs = astray 0
    turn_by (returns i next) pc at regs cs = astray 0
    turn_by (forbids i body next) pc at regs cs = astray 0
    turn_by (refutes i place) pc at regs cs = astray 0

    abbrev pub turn : (pc at : ℕ) → (regs choices : List ℕ) → Turn
    turn pc at regs cs = turn_by (decode p pc) pc at regs cs

    -- all that a turn reads is in range; a run's registers too, since it is taken as a repeat
    pub record Safe (pc at : ℕ) (regs : List ℕ) : Type 0 where
      pub fits : Fits p pc
      pub run_fits : get_or p pc 0 ≡ 10 → RepeatFits p (pc + 2)
      pub inside : at ≤ length sub
      pub size : length regs ≡ registers

    -- from a node and a position, with these registers and choices, this path is trodden
    pub data Treads : (pc at : ℕ) (regs choices : List ℕ) (path : Trail) → Type 0 where
      moves : {pc at : ℕ} {regs choices : List ℕ} {path : Trail} (more pc' at' : ℕ) (regs' choices' : List ℕ) (rest : Trail) → Safe pc at regs → turn pc at regs choices ≡ onward more pc' at' regs' choices' → path ≡ steps_then (suc more) rest → Treads pc' at' regs' choices' rest
          → Treads pc at regs choices path
      stops : {pc at : ℕ} {regs choices : List ℕ} {path : Trail} (steps : ℕ) → Safe pc at regs → turn pc at regs choices ≡ astray steps → path ≡ steps_then steps strays → Treads pc at regs choices path
      ended : {pc at : ℕ} {regs choices : List ℕ} {path : Trail} (s : State) → Safe pc at regs → turn pc at regs choices ≡ finished → s.at ≡ at → s.spans ≡ take spans_length regs → path ≡ step_then (arrives s choices) → Treads pc at regs choices path
