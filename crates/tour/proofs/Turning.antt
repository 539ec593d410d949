-- One move of the plain walk takes its events off the trace, and keeps the machine ready for one step less.
use mathlib.Core.Path.{◌≡◌, refl, ◌∙◌}
use mathlib.Core.Bool.{Bool, true, false}
use mathlib.Core.List.{List, [], ◌∷◌}
use Prim.Native.Nat.{ℕ, ◌+◌, ◌*◌, ◌-◌, ◌^◌, ◌≤◌, ◌<◌}
use native.Mathlib.Omega.{arith}
use lib.ListN.{length, get_or, replicate}
use lib.Dec.{eqb}
use borrow.Author.Tests.{eqb-true, eqb-false}
use Rattle.syntax.specs.Limits.{unset, registers}
use Rattle.syntax.specs.Tree.{Rule}
use Rattle.semantics.specs.Walk.{Trace, trace}
use Rattle.machine.specs.declared.Machine.{Machine}
use Rattle.machine.specs.Code.{decode, Fits}
use Rattle.machine.specs.Moves.{Bytes, Configuration, Now, busy, go, fall, carry_out, move, Emits}
use Rattle.machine.specs.Words.{stack_of, configuration_of, now_of, moved_on}
use Rattle.machine.specs.Ready.{StackFits, Ready}
use Rattle.machine.specs.Theorem.{Stands, clear-all, begins}
use Rattle.machine.specs.Laws.Loop.{fits-now, ReadyForSome}
use Rattle.machine.specs.Laws.Stack.{length-stack_of, move-leaves}
use Rattle.plain.specs.Telling.{notes, leads_by, leads, leads-plain}

module _ (p sub : List ℕ) where
  -- at the rule's end the machine falls back
  pub falls-behind : (c : Configuration) → get_or p c.pc 0 ≡ 9 → (move p sub c).after ≡ fall p c.regs c.stack
  unfolding move decode carry_out
  falls-behind c e = rw e

  -- with its own position as the note of a `(?!`, the plain move is the machine's
  leads-forbidden : (c : Configuration) → get_or p c.pc 0 ≡ 16 → leads p sub c.at c ≡ (move p sub c).after
  unfolding leads leads_by notes move decode carry_out
  leads-forbidden c e = rw e

  pub leads-here : (c : Configuration) → leads p sub c.at c ≡ (move p sub c).after
  leads-here c = by (eqb (get_or p c.pc 0) 16) refl
    where
      by : (b : Bool) → eqb (get_or p c.pc 0) 16 ≡ b → leads p sub c.at c ≡ (move p sub c).after
      by true e = leads-forbidden c (eqb-true (get_or p c.pc 0) 16 e)
      by false e = leads-plain p sub c.at c (eqb-false (get_or p c.pc 0) 16 e)

  -- behind what is pending the machine goes on
  behind : (pend : Trace) (now : Now) (t : Trace) → Emits p sub pend now t → (rest : Trace) × Emits p sub [] now rest
  unfolding Emits
  behind [] now t x = (t, x)
  behind (o ∷ os) now [] x = absurd x
  behind (o ∷ os) now (e ∷ t) x = behind os now t x.1

  on : (c : Configuration) (t : Trace) → Emits p sub [] (busy c) t → (rest : Trace) × Emits p sub [] (move p sub c).after rest
  unfolding Emits
  on c [] x = absurd x
  on c (e ∷ t) x = behind (move p sub c).more (move p sub c).after t x.2

-- the machine is ready for so many steps, as the loop keeps it
pub record Able (p sub regs work : List ℕ) (m : Machine) (left : ℕ) : Type 0 where
  pub ready : ReadyForSome p sub regs work m left

-- before a walk from start 0, with fresh registers
pub starts : (code sub work : List ℕ) (x : Rule) (entry budget : ℕ) (m : Machine) → Stands code x entry → Bytes sub → 8 * budget ≤ length work → 2 * budget < 2 ^ 32
    → ((regs work : List ℕ) → now_of regs work m ≡ go entry 0 regs []) → ReadyForSome code sub (replicate registers unset) work m budget
starts code sub work x entry budget m stands bytes wide few at =
    (replicate registers unset, trace sub x 0, rw (at (replicate registers unset) work) (begins code sub x entry 0 budget (length work) (replicate registers unset) stands bytes clear-all (omega arith) wide few))

-- a machine at work
module _ {p sub regs work : List ℕ} {m : Machine} {left : ℕ} (g : Able p sub regs work m left) (live : m.live ≡ true) where
  abbrev here : Configuration
  here = configuration_of regs work m

  at_work : Ready p sub (length work) left g.ready.0 (busy here) g.ready.1
  at_work = rw live at g.ready.2

  pub ready-fits : Fits p m.pc
  ready-fits = fits-now p sub here g.ready.1 at_work.emits

  pub ready-stack : StackFits p (stack_of work m.height)
  ready-stack = at_work.fits

  pub ready-low : 4 * m.height + 8 * left ≤ length work
  ready-low = omega (arith, at_work.low, length-stack_of work m.height)

  pub ready-short : m.height < 2 ^ 32
  ready-short = omega (arith, at_work.short, length-stack_of work m.height)

  pub ready_on : 1 ≤ left → (regs' work' : List ℕ) (m' : Machine) → now_of regs' work' m' ≡ moved_on p sub regs work m → length work' ≡ length work → Able p sub regs' work' m' (left - 1)
  ready_on some regs' work' m' e w =
      let z = on p sub here g.ready.1 at_work.emits in
      let l = move-leaves p sub here ready-fits at_work.fits in
      let after : Ready p sub (length work) (left - 1) g.ready.0 (move p sub here).after z.0 = record {
        emits = z.1;
        fits = l.fits;
        low = omega (arith, l.low, at_work.low);
        short = omega (arith, l.low, at_work.short);
        back = l.back ∙ at_work.back;
      } in
      record { ready = (g.ready.0, z.0, rw (e, w) after) }
