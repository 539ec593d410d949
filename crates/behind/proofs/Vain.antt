-- Groups that close in vain: where a group's end leads, where a round that took no bytes leads, and what the node behind is then known for. Assumes nothing.
use mathlib.Core.Path.{◌≡◌, refl, ◌∙◌}
use mathlib.Core.List.{List, ◌∷◌}
use mathlib.Core.Bool.{Bool, true, false, not}
use Prim.Native.Nat.{ℕ, ◌+◌, ◌≤◌}
use native.Mathlib.Omega.{arith}
use lib.ListN.{length, get_or, drop}
use borrow.Author.Tests.{le-ltb, eq-eqb}
use Rattle.charset.specs.Class.{has}
use Rattle.syntax.specs.declared.Greed.{Greed}
use Rattle.syntax.specs.Limits.{registers}
use Rattle.semantics.specs.Repeats.{leave, allowed, decision}
use Rattle.semantics.specs.Walk.{step, Trace}
use Rattle.machine.specs.declared.Machine.{Machine}
use Rattle.machine.specs.Code.{Fits, repeat_at}
use Rattle.machine.specs.Moves.{Stack, emitting, set2, saved, go, go_set, takes, fall, decided, decides, carry_out, move}
use Rattle.machine.specs.Words.{stack_of, now_of}
use Rattle.machine.specs.Ready.{Leads, stay, Ready}
use Rattle.machine.specs.Laws.Code.{decode-at, fits-at}
use Rattle.machine.specs.Laws.Registers.{get_or-set2}
use Rattle.machine.specs.Laws.Run.{fall-saved}
use Rattle.machine.specs.Laws.Loop.{ready-led, leads-join, fits-now}
use Rattle.machine.specs.Laws.Branches.{leads-on}
use Rattle.machine.specs.Laws.Ends.{asks-byte}
use Rattle.behind.specs.Behind.{Lacks}

allowed-still : (full : Bool) (g : Greed) → allowed false full true g ≡ leave
unfolding allowed
allowed-still true g = refl
allowed-still false g = refl

module _ (p sub : List ℕ) (pc at : ℕ) (regs : List ℕ) (st : Stack) where
  -- the end of a group
  module _ (is : get_or p pc 0 ≡ 4) where
    move-close : move p sub (record { pc = pc; at = at; regs = regs; stack = st }) ≡ emitting step (go_set (get_or p (pc + 3) 0) (get_or regs (get_or p (pc + 2) 0) 0) at (get_or p (pc + 1) 0) at regs st)
    unfolding move carry_out
    move-close = rw (decode-at p pc 4 is)

    pub leads-close : Leads p sub (go pc at regs st) 1 (go (get_or p (pc + 1) 0) at (set2 regs (get_or p (pc + 3) 0) (get_or regs (get_or p (pc + 2) 0) 0) at) (saved regs (get_or p (pc + 3) 0) ∷ st))
    leads-close = leads-on p sub stay is (omega arith) move-close

  -- the end of a round that took no bytes, with none owed
  module _ (is : get_or p pc 0 ≡ 8) (none : get_or p (pc + 1) 0 ≤ get_or regs (get_or p (pc + 4) 0) 0) (still : get_or regs (get_or p (pc + 4) 0 + 1) 0 ≡ at) where
    move-ended : move p sub (record { pc = pc; at = at; regs = regs; stack = st }) ≡ emitting step (go (get_or p (pc + 6) 0) at regs st)
    unfolding move carry_out decides decided decision repeat_at
    move-ended =
        let four : pc + 1 + 3 ≡ pc + 4 = omega arith in
        let six : pc + 1 + 5 ≡ pc + 6 = omega arith in
        rw (decode-at p pc 8 is, four, eq-eqb (get_or regs (get_or p (pc + 4) 0 + 1) 0) at still, le-ltb (get_or regs (get_or p (pc + 4) 0) 0) (get_or p (pc + 1) 0) none, allowed-still _ _, six)

    pub leads-ended : Leads p sub (go pc at regs st) 1 (go (get_or p (pc + 6) 0) at regs st)
    leads-ended = leads-on p sub stay is (omega arith) move-ended

  -- what it reads is in range
  pub round-fits : Fits p pc → get_or p pc 0 ≡ 8 → (pc + 7 ≤ length p) × (get_or p (pc + 4) 0 + 2 ≤ registers)
  round-fits f is =
      let r = fits-at p pc 8 is f in
      let four : pc + 1 + 3 ≡ pc + 4 = omega arith in
      (omega (arith, r.0), rw four at r.1)

-- A group closes behind such a round, whose end stands at `behind`, and the node behind the repeat fails.
module _ (p sub regs : List ℕ) (pc at : ℕ) (is : get_or p pc 0 ≡ 4) (behind : ℕ) (there : behind ≡ get_or p (pc + 1) 0) (st : Stack) where
  abbrev slot : ℕ
  slot = get_or p (pc + 3) 0

  abbrev counter : ℕ
  counter = get_or p (behind + 4) 0

  abbrev from : ℕ
  from = get_or regs (get_or p (pc + 2) 0) 0

  pub leads-vain : get_or p behind 0 ≡ 8 → slot + 2 ≤ counter → get_or regs (counter + 1) 0 ≡ at → get_or p (behind + 1) 0 ≤ get_or regs counter 0
      → ((regs : List ℕ) (st : Stack) → Leads p sub (go (get_or p (behind + 6) 0) at regs st) 1 (fall p regs st)) → Leads p sub (go pc at regs st) 3 (fall p regs st)
  leads-vain e apart still none fails =
      let closed = set2 regs slot from at in
      let same : get_or closed counter 0 ≡ get_or regs counter 0 = get_or-set2 regs slot from at counter (omega arith) (omega arith) in
      let next : get_or closed (counter + 1) 0 ≡ get_or regs (counter + 1) 0 = get_or-set2 regs slot from at (counter + 1) (omega arith) (omega arith) in
      let shut : Leads p sub (go pc at regs st) 1 (go behind at closed (saved regs slot ∷ st)) = rw there (leads-close p sub pc at regs st is) in
      let ended = leads-ended p sub behind at closed (saved regs slot ∷ st) e (rw same none) (next ∙ still) in
      rw (← fall-saved p slot from at regs st) (leads-join p sub (leads-join p sub shut ended) (fails closed (saved regs slot ∷ st)))

-- A byte item lacks its byte, or not.
pub lacks-byte : (p sub : List ℕ) (pc at : ℕ) → get_or p pc 0 ≡ 0 → (b : Bool) → takes sub (has (drop (pc + 3) p)) at ≡ b → Lacks p sub pc at (not b)
lacks-byte p sub pc at is true e = tt
lacks-byte p sub pc at is false e = λ regs st. asks-byte p sub pc is at regs st e

-- The node behind a group's end is in range.
pub closed-fits : (p sub regs work : List ℕ) (m : Machine) (left : ℕ) → m.live ≡ true → get_or p m.pc 0 ≡ 4 → 1 ≤ left
    → (first : List ℕ) × (t : Trace) × Ready p sub (length work) left first (now_of regs work m) t → Fits p (get_or p (m.pc + 1) 0)
closed-fits p sub regs work m left live is h x =
    let l = leads-close p sub m.pc m.at regs (stack_of work m.height) is in
    let r = ready-led p sub (length work) left x.0 x.1 (rw live at x.2) l h in
    fits-now p sub _ r.rest r.ready.emits
