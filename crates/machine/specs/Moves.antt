-- The machine. It stands at a node and a position, with registers and a stack of what is left to try; each of its moves carries out one
-- node, and emits the events of the walk.
-- docs/REFERENCE.md, 14.2
use Rattle.std.specs.Prelude.{◌≡◌, List, [], ◌∷◌, ◌⊎◌, Bool, true, false, ◌&&◌, ℕ, zero, suc, ◌+◌, ◌-◌, ◌<◌, min, length, get_or, set, take, drop, ltb, eqb}
use Rattle.charset.specs.Class.{has}
use Rattle.syntax.specs.declared.Greed.TheVariants.{Greedy, Lazy}
use Rattle.syntax.specs.declared.Most.{Most}
use Rattle.syntax.specs.declared.Most.TheVariants.{AtMost, Unlimited}
use Rattle.syntax.specs.Limits.{unset, bound_limit, spans_length}
use Rattle.syntax.specs.Read.{byte}
use Rattle.syntax.specs.Sets.{single, only, in_class}
use Rattle.syntax.specs.Tree.{return_or_feeds}
use Rattle.semantics.specs.Assertions.{holds}
use Rattle.semantics.specs.States.{State, moved}
use Rattle.semantics.specs.Items.{Tried, fails, goes, when, refer, paid_for}
use Rattle.semantics.specs.Repeats.{Next, round, leave, either, is_full, decision}
use Rattle.semantics.specs.Walk.{Event, step, miss, end, Trace}
use Rattle.machine.specs.Code.{Program, Test, in_set, holding, same_as, Repeat, Instruction, tests, opens, closes, branches, last_branch, enters, loops, runs, ends, breaks, marks, keeps, returns, forbids, refutes, repeat_at, decode, Fits}

-- no byte of a subject is above 255
abbrev pub Bytes : List ℕ → Type 0
Bytes sub = (i : ℕ) → get_or sub i 0 < 256

-- Configurations ------------------------------------------------------------

-- what is left to try, and what is to be undone on the way there
pub data Frame : Type 0 where
  explore : (pc at : ℕ) → Frame  -- go on at this node
  again : (q n at : ℕ) → Frame  -- begin round n of the repeat at q: the step for its decision is taken already
  undo : (i a b : ℕ) → Frame  -- put a and b back into the registers i and i + 1
  stretch : (pc high low : ℕ) → Frame  -- go on at this node from each position from high down to low

abbrev pub Stack : Type 0
Stack = List Frame

pub record Configuration : Type 0 where
  pub pc : ℕ
  pub at : ℕ
  pub regs : List ℕ
  pub stack : Stack

-- nothing is left, with the registers as they then are; or at work
pub data Now : Type 0 where
  idle : List ℕ → Now
  busy : Configuration → Now

-- A move emits a run of events that is not empty, and costs its length.
pub record Move : Type 0 where
  pub first : Event
  pub more : Trace
  pub after : Now

abbrev pub emitting : Event → Now → Move
emitting e now = record { first = e; more = []; after = now }

abbrev pub after_step : Move → Move
after_step m = record { first = step; more = m.first ∷ m.more; after = m.after }

-- so many steps, and then what the move emits
unfoldable pub paid : ℕ → Move → Move
paid zero m = m
paid (suc n) m = after_step (paid n m)

-- Registers -----------------------------------------------------------------

-- Registers are written two at a time, and what they had goes onto the stack: one kind of frame undoes every change.
abbrev pub set2 : List ℕ → ℕ → ℕ → ℕ → List ℕ
set2 regs i a b = set (set regs i a) (i + 1) b

abbrev pub saved : List ℕ → ℕ → Frame
saved regs i = undo i (get_or regs i 0) (get_or regs (i + 1) 0)

-- the state that the registers hold, without the choices
abbrev pub state : ℕ → List ℕ → State
state at regs = record { at = at; spans = take spans_length regs; path = [] }

-- an event as the machine mostly sees it: it keeps no choices
abbrev pub shown : Event → Event
shown step = step
shown (miss place at) = miss place at
shown (end s) = end (record { at = s.at; spans = s.spans; path = [] })

-- The machine may show o for the event e of the walk. A `(?!` is entered by a plain step: that it fails, and so was an item that failed, is seen
-- only at its inner end.
abbrev pub Shows : (o e : Event) → Type 0
Shows o step = o ≡ step
Shows o (miss place at) = (o ≡ miss place at) ⊎ (o ≡ step)
Shows o (end s) = o ≡ shown (end s)

-- Going on -------------------------------------------------------------------

abbrev pub go : ℕ → ℕ → List ℕ → Stack → Now
go pc at regs st = busy (record { pc = pc; at = at; regs = regs; stack = st })

-- write two registers, and go on at pc
abbrev pub go_set : ℕ → ℕ → ℕ → ℕ → ℕ → List ℕ → Stack → Now
go_set i a b pc at regs st = go pc at (set2 regs i a b) (saved regs i ∷ st)

-- begin round n of a repeat
unfoldable pub begin : Repeat → ℕ → ℕ → List ℕ → Stack → Now
begin q n at regs st = go_set q.register n at q.body at regs st

-- a frame on top of others if it undoes a change of registers; a choice is given up
abbrev pub keep : Frame → Stack → Stack
keep (explore pc at) st = st
keep (again q n at) st = st
keep (undo i a b) st = undo i a b ∷ st
keep (stretch pc high low) st = st

-- the newest n frames without the choices among them
unfoldable pub cut : ℕ → Stack → Stack
cut zero st = st
cut (suc n) [] = []
cut (suc n) (f ∷ st) = keep f (cut n st)

-- those above the height h
abbrev pub cut_to : ℕ → Stack → Stack
cut_to h st = cut (length st - h) st

-- Rounds are counted up to the greatest bound: no decision changes above it, and the count stays small whatever the subject.
unfoldable pub bump : ℕ → ℕ
bump n = min (n + 1) bound_limit

-- an item tried at a state
unfoldable pub tested : List ℕ → Test → State → Tried
tested sub (in_set f) s = when (ltb s.at (length sub)) (when (f (byte sub s.at)) (goes (moved (suc s.at) s)))
tested sub (holding a) s = when (holds sub a s.at) (goes s)
tested sub (same_as folded slot) s = refer folded sub (get_or s.spans slot unset) (get_or s.spans (slot + 1) unset) s

-- the steps that it costs beside its own
unfoldable pub price : List ℕ → Test → State → ℕ
price sub (in_set f) s = 0
price sub (holding a) s = 0
price sub (same_as folded slot) s = paid_for folded sub (get_or s.spans slot unset) (get_or s.spans (slot + 1) unset) s.at

-- Runs ------------------------------------------------------------------------

-- whether there is a byte at a position, and it is in the set
unfoldable pub takes : List ℕ → (ℕ → Bool) → ℕ → Bool
takes sub f at = ltb at (length sub) && f (byte sub at)

unfoldable pub one_more : Bool → ℕ → ℕ
one_more true n = suc n
one_more false n = 0

-- how many bytes of the set stand from a position on, at most `limit` of them
unfoldable pub extent : List ℕ → (ℕ → Bool) → (limit at : ℕ) → ℕ
extent sub f zero at = 0
extent sub f (suc limit) at = one_more (takes sub f at) (extent sub f limit (suc at))

-- how many rounds may follow the n-th, where so many bytes are left
unfoldable pub allowance : Most → (n bytes : ℕ) → ℕ
allowance (AtMost m) n bytes = m - n
allowance Unlimited n bytes = bytes

-- two steps for each byte that is taken, its own and that of the decision behind it
unfoldable pub strides : ℕ → Trace → Trace
strides zero t = t
strides (suc k) t = step ∷ step ∷ strides k t

-- one for the byte that failed, unless the most rounds were made
unfoldable pub stopped : Bool → (place at : ℕ) → Trace
stopped true place at = []
stopped false place at = miss place at ∷ []

-- the positions below `high`, down to low
unfoldable pub descend : Bool → (pc high low : ℕ) → Stack → Stack
descend true pc high low st = stretch pc (high - 1) low ∷ st
descend false pc high low st = st

abbrev pub below : (pc high low : ℕ) → Stack → Stack
below pc high low st = descend (ltb low high) pc high low st

-- all of them, unless the rounds are too few
unfoldable pub ends_of : Bool → (pc high low : ℕ) → Stack → Stack
ends_of true pc high low st = st
ends_of false pc high low st = stretch pc high low ∷ st

-- Breaks ----------------------------------------------------------------------

-- the three byte items of `\R`, in the order in which it tries them
abbrev pub is_return : ℕ → Bool
is_return b = in_class false (only (single 0x0D)) b

abbrev pub is_feed : ℕ → Bool
is_feed b = in_class false (only (single 0x0A)) b

abbrev pub is_break : ℕ → Bool
is_break b = in_class false return_or_feeds b

-- Moves -----------------------------------------------------------------------

module _ (p : Program) where
  -- falling back: "costs nothing"
  unfoldable pub fall : List ℕ → Stack → Now
  fall regs [] = idle regs
  fall regs (explore pc at ∷ st) = go pc at regs st
  fall regs (again q n at ∷ st) = begin (repeat_at p q) n at regs st
  fall regs (undo i a b ∷ st) = fall (set2 regs i a b) st
  fall regs (stretch pc high low ∷ st) = go pc high regs (below pc high low st)

  -- what a decision after n rounds leads to
  unfoldable pub decided : Next → (q n at : ℕ) → List ℕ → Stack → Now
  decided round q n at regs st = begin (repeat_at p q) (bump n) at regs st
  decided leave q n at regs st = go (repeat_at p q).next at regs st
  decided (either Greedy) q n at regs st = begin (repeat_at p q) (bump n) at regs (explore (repeat_at p q).next at ∷ st)
  decided (either Lazy) q n at regs st = go (repeat_at p q).next at regs (again q (bump n) at ∷ st)

  unfoldable pub decides : (q n : ℕ) → Bool → (at : ℕ) → List ℕ → Stack → Now
  decides q n still at regs st = decided (decision (repeat_at p q).least (repeat_at p q).most (repeat_at p q).greed n still) q n at regs st

  unfoldable pub tried : Tried → (place next at : ℕ) → List ℕ → Stack → Move
  tried fails place next at regs st = emitting (miss place at) (fall regs st)
  tried (goes t) place next at regs st = emitting step (go next t.at regs st)

  -- a run of k bytes from `at` on: it goes on behind them, and later behind fewer, down to the least
  unfoldable pub ran : Repeat → (k at : ℕ) → List ℕ → Stack → Move
  ran q k at regs st = record {
    first = step;
    more = strides k (stopped (is_full q.most k) (get_or p (q.body + 2) 0) (at + k));
    after = fall regs (ends_of (ltb k q.least) q.next (at + k) (at + q.least) st);
  }

  -- the second branch of `\R`, whose byte is there or not, behind what the first branch emitted
  unfoldable pub broke_alone : Bool → (place next at : ℕ) → List ℕ → Stack → (Trace → Trace) → Move
  broke_alone true place next at regs st before = record { first = step; more = step ∷ before (step ∷ step ∷ step ∷ []); after = go next (suc at) regs st }
  broke_alone false place next at regs st before = record { first = step; more = step ∷ before (step ∷ miss place at ∷ []); after = fall regs st }

  -- `\R` at a position, by whether the bytes of its three items are there: it is entered, and its first branch, a return and a feed, is begun
  unfoldable pub broke : (return feed alone : Bool) → (place next at : ℕ) → List ℕ → Stack → Move
  broke true true alone place next at regs st = record { first = step; more = step ∷ step ∷ step ∷ step ∷ []; after = go next (suc (suc at)) regs st }
  broke true false alone place next at regs st = broke_alone alone place next at regs st (λ es. step ∷ miss place (suc at) ∷ es)
  broke false feed alone place next at regs st = broke_alone alone place next at regs st (λ es. miss place at ∷ es)

  module _ (sub : List ℕ) where
    -- the bytes that a run takes: its body is the node of a byte item
    unfoldable pub bytes_of : Repeat → (n at : ℕ) → ℕ
    bytes_of q n at = extent sub (has (drop (q.body + 3) p)) (allowance q.most n (length sub - at)) at

    unfoldable pub carry_out : Instruction → (at : ℕ) → List ℕ → Stack → Move
    carry_out (tests t place next) at regs st = paid (price sub t (state at regs)) (tried (tested sub t (state at regs)) place next at regs st)
    carry_out (opens i body) at regs st = emitting step (go_set i at 0 body at regs st)
    carry_out (closes i slot next) at regs st = emitting step (go_set slot (get_or regs i 0) at next at regs st)
    carry_out (branches body other) at regs st = emitting step (go body at regs (explore other at ∷ st))
    carry_out (last_branch body) at regs st = emitting step (go body at regs st)
    carry_out (enters q) at regs st = emitting step (decides q 0 false at regs st)
    carry_out (loops q) at regs st = emitting step (decides q (get_or regs (repeat_at p q).register 0) (eqb (get_or regs ((repeat_at p q).register + 1) 0) at) at regs st)
    carry_out (runs q) at regs st = ran (repeat_at p q) (bytes_of (repeat_at p q) 0 at) at regs st
    carry_out ends at regs st = emitting (end (state at regs)) (fall regs st)
    carry_out (breaks place next) at regs st = broke (takes sub is_return at) (takes sub is_feed (suc at)) (takes sub is_break at) place next at regs st
    carry_out (marks i body) at regs st = emitting step (go_set i (length st) at body at regs st)
    carry_out (keeps i next) at regs st = emitting step (go next at regs (cut_to (get_or regs i 0) st))
    carry_out (returns i next) at regs st = emitting step (go next (get_or regs (i + 1) 0) regs (cut_to (get_or regs i 0) st))
    carry_out (forbids i body next) at regs st = emitting step (go_set i (length st) at body at regs (explore next at ∷ st))
    carry_out (refutes i place) at regs st = emitting step (fall regs (cut_to (get_or regs i 0) st))

    unfoldable pub move : Configuration → Move
    move c = carry_out (decode p c.pc) c.at c.regs c.stack

    -- The machine emits first what is pending and then, until nothing is left, what its moves emit; and all that its moves read is in range.
    unfoldable pub Emits : Trace → Now → Trace → Type 0
    Emits [] (idle regs) [] = Unit {0}
    Emits [] (idle regs) (e ∷ t) = ⊥
    Emits [] (busy c) [] = ⊥
    Emits [] (busy c) (e ∷ t) = Fits p c.pc × Shows (move c).first e × Emits (move c).more (move c).after t
    Emits (o ∷ os) now [] = ⊥
    Emits (o ∷ os) now (e ∷ t) = Shows o e × Emits os now t
