-- The invariant of the loop that runs to the next end. Assumes nothing.
use mathlib.Core.Path.{◌≡◌, refl, ◌∙◌}
use mathlib.Core.List.{List}
use mathlib.Core.Bool.{true, false}
use Prim.Native.Nat.{ℕ, ◌+◌, ◌*◌, ◌-◌, ◌≤◌, ◌<◌}
use native.Mathlib.Omega.{arith}
use lib.ListN.{length, get_or}
use Rattle.semantics.specs.Walk.{Trace}
use Rattle.machine.specs.declared.Machine.{Machine}
use Rattle.machine.specs.declared.Stop.{Stop}
use Rattle.machine.specs.declared.Stop.TheVariants.{End, Nothing, Spent}
use Rattle.machine.specs.declared.Ran.{Ran}
use Rattle.machine.specs.declared.Ran.TheVariants.{Made, TooLong}
use Rattle.machine.specs.Code.{Fits}
use Rattle.machine.specs.Moves.{Configuration, idle, busy}
use Rattle.machine.specs.Words.{stack_of, configuration_of, now_of}
use Rattle.machine.specs.Ready.{until, Leads, RanBy, StackFits, Ready, Reached, Agrees, at_end, all_tried, out_of_steps}
use Rattle.machine.specs.Laws.Loop.{Running, running-start, running-idle, running-out, running-end, running-led, running-led-cut, running-fits, running-stack, running-low}
use Rattle.walker.proofs.Stepping.{used-none, used_all, rest-again, used-more}

-- A run that begins with the registers regs₀ and the work area work₀, at m₀.
module _ (p sub regs₀ work₀ : List ℕ) (m₀ : Machine) (budget : ℕ) where
  abbrev pub ReadyAtFirst : List ℕ → Trace → Type 0
  ReadyAtFirst first t = Ready p sub (length work₀) budget first (now_of regs₀ work₀ m₀) t

  -- what it promises of how it stops and what it leaves
  abbrev pub Promised : Stop → List ℕ → List ℕ → Type 0
  Promised r regs work = (first : List ℕ) (t : Trace) → ReadyAtFirst first t → Agrees p sub (length work₀) budget first regs work (until budget 0 t) r

  pub record Walking (regs work : List ℕ) (rest : ℕ) (m : Machine) : Type 0 where
    pub size : length regs ≡ length regs₀
    pub wide : length work ≡ length work₀
    pub few : rest ≤ budget
    pub some : (first : List ℕ) × (t : Trace) × ReadyAtFirst first t
    pub runs : (first : List ℕ) (t : Trace) → ReadyAtFirst first t → Running p sub (length work₀) budget first t (budget - rest) (now_of regs work m)

  pub walking_start : (first : List ℕ) × (t : Trace) × ReadyAtFirst first t → Walking regs₀ work₀ budget m₀
  walking_start x = record { size = refl; wide = refl; few = omega arith; some = x; runs = λ first t r. rw (used-none budget) (running-start p sub (length work₀) budget first t _ r) }

module _ {p sub regs₀ work₀ : List ℕ} {m₀ : Machine} {budget : ℕ} {regs work : List ℕ} {rest : ℕ} {m : Machine} (g : Walking p sub regs₀ work₀ m₀ budget regs work rest m) where
  abbrev here : Configuration
  here = configuration_of regs work m

  pub walking-none : m.live ≡ false → Promised p sub regs₀ work₀ m₀ budget (Nothing (budget - rest)) regs work
  walking-none e first t x =
      let y : Running p sub (length work₀) budget first t (budget - rest) (idle regs) = rw e at (g.runs first t x) in
      rw (running-idle p sub (length work₀) budget first t (budget - rest) regs y) (all_tried {used = budget - rest} (omega arith) y.ready.back)

  at_work : Running p sub (length work₀) budget g.some.0 g.some.1 (budget - rest) (now_of regs work m)
  at_work = g.runs g.some.0 g.some.1 g.some.2

  pub walking-ready : (first : List ℕ) × (t : Trace) × Ready p sub (length work) rest first (now_of regs work m) t
  walking-ready = (g.some.0, at_work.rest, rw g.wide (rw (rest-again budget rest g.few) at at_work.ready))

  -- nodes in a row
  pub walking_on : (regs' work' : List ℕ) (m' : Machine) (n : ℕ) → n ≤ rest → Leads p sub (now_of regs work m) n (now_of regs' work' m') → length regs' ≡ length regs → length work' ≡ length work
      → Walking p sub regs₀ work₀ m₀ budget regs' work' (rest - n) m'
  walking_on regs' work' m' n h l s s' = record {
    size = s ∙ g.size;
    wide = s' ∙ g.wide;
    few = omega (arith, g.few);
    some = g.some;
    runs = λ first t x. rw (used-more budget rest n g.few h) (running-led p sub (length work₀) budget first t (budget - rest) n _ _ l (omega (arith, g.few)) (g.runs first t x));
  }

  -- the same, by the steps that are left
  pub walking-to : (regs' work' : List ℕ) (m' : Machine) (r : ℕ) → r < rest → Leads p sub (now_of regs work m) (rest - r) (now_of regs' work' m') → length regs' ≡ length regs → length work' ≡ length work
      → Walking p sub regs₀ work₀ m₀ budget regs' work' r m'
  walking-to regs' work' m' r h l s s' = rw (rest-again rest r (omega arith)) at (walking_on regs' work' m' (rest - r) (omega arith) l s s')

  module _ (regs' work' : List ℕ) (r : Ran) (x : RanBy p sub (now_of regs work m) rest regs' work' r) where
    -- a run or a reference that the steps are not enough for
    pub walking-cut : r ≡ TooLong → Promised p sub regs₀ work₀ m₀ budget Spent regs' work'
    walking-cut e first t y =
        let w : RanBy p sub (now_of regs work m) rest regs' work' TooLong = rw e at x in
        rw (running-led-cut p sub (length work₀) budget first t (budget - rest) w.0 _ w.1 w.3 (omega arith) (omega (arith, w.2, g.few)) (g.runs first t y)) out_of_steps

    -- one that is made
    module _ (n : ℕ) (m' : Machine) (e : r ≡ Made n m') where
      pub made : RanBy p sub (now_of regs work m) rest regs' work' (Made n m')
      made = rw e at x

      pub walking_run : length regs' ≡ length regs → length work' ≡ length work → Walking p sub regs₀ work₀ m₀ budget regs' work' (rest - n) m'
      walking_run s s' = walking_on regs' work' m' n made.1 made.2 s s'

  module _ (live : m.live ≡ true) where
    running : (first : List ℕ) (t : Trace) → ReadyAtFirst p sub regs₀ work₀ m₀ budget first t → Running p sub (length work₀) budget first t (budget - rest) (busy here)
    running first t x = rw live at (g.runs first t x)

    pub walking-fits : Fits p m.pc
    walking-fits = running-fits regs work m live at_work

    walking-stack : StackFits p (stack_of work m.height)
    walking-stack = running-stack regs work m live at_work

    walking-low : 4 * m.height + 8 * rest ≤ length work₀
    walking-low = rw (rest-again budget rest g.few) at (running-low regs work m live at_work)

    pub walking-out : rest ≡ 0 → Promised p sub regs₀ work₀ m₀ budget Spent regs work
    walking-out h first t x = rw (running-out p sub (length work₀) budget first t (budget - rest) here (running first t x) (used_all budget rest h)) out_of_steps

    pub walking-end : 0 < rest → get_or p m.pc 0 ≡ 9 → Promised p sub regs₀ work₀ m₀ budget (End (budget - rest + 1) m) regs work
    walking-end h k first t x =
        let e = running-end p sub (length work₀) budget first t (budget - rest) here (running first t x) (omega (arith, g.few)) k in
        let x : Reached p sub (length work₀) budget first (budget - rest + 1) e.met e.rest m regs work = record { few = omega (arith, g.few); at = e.at; spans = e.spans; low = omega (arith, walking-low, g.few); fits = walking-stack; ready = e.ready } in
        rw e.until_is (at_end {used = budget - rest + 1} {s = e.met} {rest = e.rest} {m = m} x)
