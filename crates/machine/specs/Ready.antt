-- Running to the next end: when the machine can, and what it then finds, in terms of the trace.
use Rattle.std.specs.Prelude.{◌≡◌, List, [], ◌∷◌, Bool, false, ℕ, zero, suc, ◌+◌, ◌*◌, ◌-◌, ◌^◌, ◌≤◌, ◌<◌, length, get_or, take}
use Rattle.syntax.specs.Limits.{spans_length, registers}
use Rattle.semantics.specs.States.{State}
use Rattle.semantics.specs.Walk.{step, miss, end, Trace}
use Rattle.machine.specs.declared.Machine.{Machine}
use Rattle.machine.specs.declared.Stop.{Stop}
use Rattle.machine.specs.declared.Stop.TheVariants.{End, Nothing, Spent}
use Rattle.machine.specs.declared.Ran.{Ran}
use Rattle.machine.specs.declared.Ran.TheVariants.{Made, TooLong}
use Rattle.machine.specs.Code.{Program, RepeatFits}
use Rattle.machine.specs.Moves.{Frame, explore, again, undo, stretch, Stack, Configuration, Now, idle, busy, set2, go, takes, fall, move, Emits}
use Rattle.machine.specs.Words.{stack_of, now_of}

-- The next end of a trace -----------------------------------------------------

-- an end, with the steps used up to it, its state and what then remains; or nothing is left; or the steps are spent
pub data Found : Type 0 where
  ended : (used : ℕ) → State → (rest : Trace) → Found
  nothing : (used : ℕ) → Found
  spent : Found

-- within `left` steps, when `used` are used already
unfoldable pub until : (left used : ℕ) → Trace → Found
until left used [] = nothing used
until zero used (e ∷ t) = spent
until (suc left) used (step ∷ t) = until left (suc used) t
until (suc left) used (miss place at ∷ t) = until left (suc used) t
until (suc left) used (end s ∷ t) = ended (suc used) s t

-- Nodes in a row ----------------------------------------------------------------

-- what is no end, and has a number above it: runs, references, breaks, and the nodes of held parts and looking ahead
abbrev pub Several : ℕ → Type 0
Several kind = 10 ≤ kind

-- nodes, none of them an end, lead from here to there in n steps: each takes one for each of its events, those below 9 one
pub data Leads (p sub : List ℕ) (here : Now) : (n : ℕ) → (there : Now) → Type 0 where
  stay : Leads p sub here 0 here
  onward : {n : ℕ} {c : Configuration} → Leads p sub here n (busy c) → get_or p c.pc 0 ≤ 8 → Leads p sub here (suc n) (move p sub c).after
  along : {n : ℕ} {c : Configuration} → Leads p sub here n (busy c) → Several (get_or p c.pc 0) → Leads p sub here (n + suc (length (move p sub c).more)) (move p sub c).after

-- more steps than are left lead on, with no end among them
abbrev pub Overruns : (p sub : List ℕ) → (here : Now) → (left : ℕ) → Type 0
Overruns p sub here left = (n : ℕ) × (there : Now) × (left < n) × Leads p sub here n there

-- How a node of several steps went: some of the steps that are left lead to where the machine stands, with these registers and this work area; or they
-- are too few.
abbrev pub RanBy : (p sub : List ℕ) → (here : Now) → (left : ℕ) → (regs work : List ℕ) → Ran → Type 0
RanBy p sub here left regs work (Made n m) = (1 ≤ n) × (n ≤ left) × Leads p sub here n (now_of regs work m)
RanBy p sub here left regs work TooLong = Overruns p sub here left

-- no byte of a set stands at n positions from `high` down
abbrev pub Missed : (sub : List ℕ) → (ℕ → Bool) → (high n : ℕ) → Type 0
Missed sub f high n = (j : ℕ) → j < n → takes sub f (high - j) ≡ false

-- where no byte of a set stands, a node fails in so many steps
abbrev pub Asks : (p sub : List ℕ) → (pc cost : ℕ) → (ℕ → Bool) → Type 0
Asks p sub pc cost f = (at : ℕ) (regs : List ℕ) (st : Stack) → takes sub f at ≡ false → Leads p sub (go pc at regs st) cost (fall p regs st)

-- The stack -------------------------------------------------------------------

-- what falling back to a frame reads and writes is in range
abbrev pub FrameFits : Program → Frame → Type 0
FrameFits p (explore pc at) = Unit {0}
FrameFits p (again q n at) = RepeatFits p q
FrameFits p (undo i a b) = i + 2 ≤ registers
FrameFits p (stretch pc high low) = Unit {0}

abbrev pub StackFits : Program → Stack → Type 0
StackFits p [] = Unit {0}
StackFits p (f ∷ fs) = FrameFits p f × StackFits p fs

-- undoing changes of registers on the way down to a lower height: falling back leads where it did, and the frame on top there is no undo
pub record Undone (work : List ℕ) (height : ℕ) (regs : List ℕ) (low : ℕ) (undone : List ℕ) : Type 0 where
  pub lower : low ≤ height
  pub fits : (p : Program) → StackFits p (stack_of work height) → StackFits p (stack_of work low)
  pub falls : (p : Program) → fall p undone (stack_of work low) ≡ fall p regs (stack_of work height)
  pub top : 0 < low → get_or work (4 * (low - 1)) 0 < 3

abbrev pub frames : Now → Stack
frames (idle regs) = []
frames (busy c) = c.stack

-- the registers when all is undone
unfoldable pub replay : List ℕ → Stack → List ℕ
replay regs [] = regs
replay regs (explore pc at ∷ st) = replay regs st
replay regs (again q n at ∷ st) = replay regs st
replay regs (undo i a b ∷ st) = replay (set2 regs i a b) st
replay regs (stretch pc high low ∷ st) = replay regs st

abbrev pub origin : Now → List ℕ
origin (idle regs) = regs
origin (busy c) = replay c.regs c.stack

-- Ready -------------------------------------------------------------------------

-- The machine can run for `budget` steps over a work area of `room` numbers: it emits t, all that it reads and writes stays in range, and
-- once nothing is left the registers are `first`. A frame takes four numbers, and a move adds at most two frames; how
-- many there are fits into a register.
pub record Ready (p sub : List ℕ) (room budget : ℕ) (first : List ℕ) (now : Now) (t : Trace) : Type 0 where
  pub emits : Emits p sub [] now t
  pub fits : StackFits p (frames now)
  pub low : 4 * length (frames now) + 8 * budget ≤ room
  pub short : length (frames now) + 2 * budget < 2 ^ 32
  pub back : origin now ≡ first

-- At an end with the state s, reached after `used` steps: the machine's numbers are the state's, and falling back makes it ready again, for
-- the steps that are left and the rest of the trace.
pub record Reached (p sub : List ℕ) (room budget : ℕ) (first : List ℕ) (used : ℕ) (s : State) (rest : Trace) (m : Machine) (regs work : List ℕ) : Type 0 where
  pub few : used ≤ budget
  pub at : s.at ≡ m.at
  pub spans : s.spans ≡ take spans_length regs
  pub low : 4 * m.height ≤ room
  pub fits : StackFits p (stack_of work m.height)
  pub ready : Ready p sub room (budget - used) first (fall p regs (stack_of work m.height)) rest

-- How a run stops that finds so much, with these registers and this work area left behind.
pub data Agrees (p sub : List ℕ) (room budget : ℕ) (first regs work : List ℕ) : Found → Stop → Type 0 where
  at_end : {used : ℕ} {s : State} {rest : Trace} {m : Machine} → Reached p sub room budget first used s rest m regs work → Agrees p sub room budget first regs work (ended used s rest) (End used m)
  all_tried : {used : ℕ} → used ≤ budget → regs ≡ first → Agrees p sub room budget first regs work (nothing used) (Nothing used)
  out_of_steps : Agrees p sub room budget first regs work spent Spent
