-- Branches passed over: the invariant of the loop in `take_branch`, what is in range by it, and where each way out of the loop leads. Assumes
-- nothing.
use mathlib.Core.Path.{◌≡◌, refl}
use mathlib.Core.List.{List, ◌∷◌}
use mathlib.Core.Bool.{true, false}
use Prim.Native.Nat.{ℕ, ◌+◌, ◌*◌, ◌-◌, ◌≤◌, ◌<◌}
use native.Mathlib.Omega.{arith}
use lib.ListN.{length, get_or, drop}
use Rattle.charset.specs.Class.{has}
use Rattle.semantics.specs.Walk.{step, Trace}
use Rattle.machine.specs.declared.Machine.{Machine}
use Rattle.machine.specs.declared.Walked.{Walked}
use Rattle.machine.specs.Code.{Fits}
use Rattle.machine.specs.Moves.{explore, Stack, Configuration, busy, emitting, go, takes, carry_out, move}
use Rattle.machine.specs.Words.{stack_of, now_of}
use Rattle.machine.specs.Ready.{Leads, stay, Ready}
use Rattle.machine.specs.Laws.Code.{fits-at, decode-at}
use Rattle.machine.specs.Laws.Stack.{length-stack_of}
use Rattle.machine.specs.Laws.Loop.{Running, ready-led, leads-join, fits-now}
use Rattle.machine.specs.Laws.Branches.{leads-on, leads-branch, leads-passed, leads-taken}
use Rattle.branches.specs.Onward.{Onward}

-- The last branch leads to its body.
module _ (p sub : List ℕ) (pc at : ℕ) (regs : List ℕ) (st : Stack) (is : get_or p pc 0 ≡ 6) where
  move-last : move p sub (record { pc = pc; at = at; regs = regs; stack = st }) ≡ emitting step (go (get_or p (pc + 1) 0) at regs st)
  unfolding move carry_out
  move-last = rw (decode-at p pc 6 is)

  leads-last : Leads p sub (go pc at regs st) 1 (go (get_or p (pc + 1) 0) at regs st)
  leads-last = leads-on p sub stay is (omega arith) move-last

-- What is promised of going on: there at once, or behind the last branch.
module _ (p : List ℕ) (m : Machine) (pc used left : ℕ) (r : Walked) where
  abbrev Come : ℕ → ℕ → Type 0
  Come to n = (r.used ≡ n) × ((regs work : List ℕ) → now_of regs work r.head ≡ go to m.at regs (stack_of work m.height))

  pub onward-here : used ≤ left → Come pc used → Onward p m pc used left r
  onward-here h e = (0, omega (arith, e.0), omega arith, λ sub regs work. rw (e.1 regs work) stay)

  pub onward-last : used < left → get_or p pc 0 ≡ 6 → Come (get_or p (pc + 1) 0) (used + 1) → Onward p m pc used left r
  onward-last h is e = (1, e.0, omega arith, λ sub regs work. rw (e.1 regs work) (leads-last p sub pc m.at regs (stack_of work m.height) is))

-- A branch that begins at m, over the work area work₀.
module _ (p sub work₀ : List ℕ) (m : Machine) (left : ℕ) where
  abbrev pub ReadyForSome : Type 0
  ReadyForSome = (regs first : List ℕ) × (t : Trace) × Ready p sub (length work₀) left first (now_of regs work₀ m) t

  -- what is promised of how far nodes led, and of the work area that is left behind
  abbrev pub Led : List ℕ → Walked → Type 0
  Led work r = (1 ≤ r.used) × (r.used ≤ left) × ((regs : List ℕ) → Leads p sub (now_of regs work₀ m) r.used (now_of regs work r.head))

  -- at a branch to which so many steps lead, with the stack as it was
  pub record Passing (work : List ℕ) (pc used : ℕ) : Type 0 where
    pub same : work ≡ work₀
    pub few : used ≤ left
    pub branch : get_or p pc 0 ≡ 5
    pub some : ReadyForSome
    pub leads : (regs : List ℕ) → Leads p sub (now_of regs work₀ m) used (go pc m.at regs (stack_of work₀ m.height))

  pub passing-start : m.live ≡ true → get_or p m.pc 0 ≡ 5 → ReadyForSome → Passing work₀ m.pc 0
  passing-start live is x = record { same = refl; few = omega arith; branch = is; some = x; leads = λ regs. rw live stay }

module _ {p sub work₀ : List ℕ} {m : Machine} {left : ℕ} {work : List ℕ} {pc used : ℕ} (g : Passing p sub work₀ m left work pc used) where
  abbrev body : ℕ
  body = get_or p (pc + 1) 0

  abbrev other : ℕ
  other = get_or p (pc + 2) 0

  abbrev stack : Stack
  stack = stack_of work₀ m.height

  led : (n : ℕ) (c : Configuration) → Leads p sub (now_of g.some.0 work₀ m) n (busy c) → n ≤ left → Running p sub (length work₀) left g.some.1 g.some.2 n (busy c)
  led n c l h = ready-led p sub (length work₀) left g.some.1 g.some.2 g.some.3 l h

  led-fits : (n : ℕ) (c : Configuration) → Leads p sub (now_of g.some.0 work₀ m) n (busy c) → n ≤ left → Fits p c.pc
  led-fits n c l h = let r = led n c l h in fits-now p sub c r.rest r.ready.emits

  pub passing-fits : pc + 3 ≤ length p
  passing-fits = fits-at p pc 5 g.branch (led-fits used _ (g.leads g.some.0) g.few)

  pub passing-low : 4 * m.height + 8 * (left - used) ≤ length work
  passing-low = rw g.same (omega (arith, (led used _ (g.leads g.some.0) g.few).ready.low, length-stack_of work₀ m.height))

  -- the steps are all used
  pub passing-out : (r : Walked) → 1 ≤ left → used ≡ left → (r.used ≡ used) × ((regs work : List ℕ) → now_of regs work r.head ≡ go pc m.at regs (stack_of work m.height)) → Led p sub work₀ m left work r
  passing-out r h u e = (omega (arith, e.0), omega (arith, e.0), λ regs. rw (e.0, e.1 regs work, g.same) (g.leads regs))

  -- the branch begins
  pub passing-begun : (work' : List ℕ) (r : Walked) → used < left → (r.used ≡ used + 1) × ((regs : List ℕ) → now_of regs work' r.head ≡ go body m.at regs (explore other m.at ∷ stack_of work m.height))
      → Led p sub work₀ m left work' r
  passing-begun work' r h e = (omega (arith, e.0), omega (arith, e.0), λ regs. rw (e.0, e.1 regs, g.same) (leads-branch p sub pc m.at regs stack g.branch (g.leads regs)))

  module _ (h : 2 ≤ left - used) where
    pub passing-body : Fits p body
    passing-body = led-fits (used + 1) _ (leads-branch p sub pc m.at g.some.0 stack g.branch (g.leads g.some.0)) (omega arith)

    module _ (is : get_or p body 0 ≡ 0) where
      pub passing-set : body + 11 ≤ length p
      passing-set = fits-at p body 0 is passing-body

      -- its byte is there
      pub passing-taken : (work' : List ℕ) (r : Walked) → takes sub (has (drop (body + 3) p)) m.at ≡ true
          → (r.used ≡ used + 2) × ((regs : List ℕ) → now_of regs work' r.head ≡ go (get_or p (body + 1) 0) (m.at + 1) regs (explore other m.at ∷ stack_of work m.height)) → Led p sub work₀ m left work' r
      passing-taken work' r t e = (omega (arith, e.0), omega (arith, e.0), λ regs. rw (e.0, e.1 regs, g.same) (leads-taken p sub pc m.at regs stack g.branch (g.leads regs) is t))

      -- it is not
      module _ (t : takes sub (has (drop (body + 3) p)) m.at ≡ false) where
        leads-other : (regs : List ℕ) → Leads p sub (now_of regs work₀ m) (used + 2) (go other m.at regs stack)
        leads-other regs = leads-passed p sub pc m.at regs stack g.branch (g.leads regs) is t

        pub passing-other : Fits p other
        passing-other = led-fits (used + 2) _ (leads-other g.some.0) (omega arith)

        pub passing-on : get_or p other 0 ≡ 5 → Passing p sub work₀ m left work other (used + 2)
        passing-on b = record { same = g.same; few = omega arith; branch = b; some = g.some; leads = leads-other }

        pub passing-off : (r : Walked) → Onward p m other (used + 2) left r → Led p sub work₀ m left work r
        passing-off r e = (omega (arith, e.1), omega (arith, e.1, e.2), λ regs. rw (e.1, g.same) (leads-join p sub (leads-other regs) (e.3 sub regs work₀)))
