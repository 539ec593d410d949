-- What the loop over a walk's ends keeps: the machine is ready for the steps that are left.
use mathlib.Core.Path.{◌≡◌}
use mathlib.Core.List.{List}
use Prim.Native.Nat.{ℕ, ◌-◌, ◌*◌, ◌≤◌}
use native.Mathlib.Omega.{arith}
use lib.ListN.{length}
use Rattle.syntax.specs.Limits.{registers}
use Rattle.semantics.specs.Walk.{Trace}
use Rattle.machine.specs.declared.Machine.{Machine}
use Rattle.machine.specs.declared.Stop.{Stop}
use Rattle.machine.specs.declared.Stop.TheVariants.{End, Nothing}
use Rattle.machine.specs.Moves.{fall}
use Rattle.machine.specs.Words.{stack_of, now_of}
use Rattle.machine.specs.Ready.{until, StackFits, Ready, Agrees}
use Rattle.machine.specs.Theorem.{at-end, at-nothing, resumes}
use Rattle.machine.specs.Laws.Loop.{until-ended}

module _ (code sub : List ℕ) where
  -- so many steps are left
  pub record Going (regs work : List ℕ) (head : Machine) (left : ℕ) : Type 0 where
    pub size : length regs ≡ registers
    pub first : List ℕ
    pub t : Trace
    pub ready : Ready code sub (length work) left first (now_of regs work head) t

  module _ (regs work : List ℕ) (head : Machine) (left : ℕ) (g : Going regs work head left) (regs' work' : List ℕ) (o : Stop)
      (ran : (first : List ℕ) (t : Trace) → Ready code sub (length work) left first (now_of regs work head) t → Agrees code sub (length work) left first regs' work' (until left 0 t) o) where
    -- an end: it took a step at least, and falling back makes the machine ready for the steps that are left
    pub record Ended (used : ℕ) (e : Machine) : Type 0 where
      pub some : 1 ≤ used
      pub few : used ≤ left
      pub low : 4 * e.height ≤ length work
      pub fits : StackFits code (stack_of work' e.height)
      pub next : (regs'' work'' : List ℕ) (m : Machine) → now_of regs'' work'' m ≡ fall code regs' (stack_of work' e.height) → length regs'' ≡ registers → length work'' ≡ length work → Going regs'' work'' m (left - used)

    pub ended : (used : ℕ) (e : Machine) → o ≡ End used e → Ended used e
    ended used e q =
        let a = at-end (rw q at (ran g.first g.t g.ready)) in
        let u = until-ended g.t left 0 used a.0 a.1 a.2 in
        let x = a.3 in
        record {
          some = omega (arith, u.3);
          few = x.few;
          low = x.low;
          fits = x.fits;
          next = λ regs'' work'' m s n w. record { size = n; first = g.first; t = a.1; ready = rw w (resumes x regs'' work'' m s) };
        }

    pub stopped : (used : ℕ) → o ≡ Nothing used → used ≤ left
    stopped used q = (at-nothing (rw q at (ran g.first g.t g.ready))).1
