-- The walk's invariant: the machine is ready for as many moves as are left. A move that emits several events is counted as one: nothing is promised of the
-- count but that the work area has room.
use mathlib.Core.Path.{◌≡◌, ap, sym, ◌∙◌}
use mathlib.Core.List.{List, [], ◌∷◌}
use mathlib.Core.Bool.{true}
use Prim.Native.Nat.{ℕ, ◌+◌, ◌*◌, ◌-◌, ◌^◌, ◌≤◌, ◌<◌}
use native.Mathlib.Omega.{arith}
use lib.ListN.{length, get_or}
use Rattle.semantics.specs.Walk.{Trace}
use Rattle.machine.specs.declared.Machine.{Machine}
use Rattle.machine.specs.Code.{Instruction, Fits}
use Rattle.machine.specs.Moves.{Configuration, Now, busy, go, fall, carry_out, move, Emits}
use Rattle.machine.specs.Words.{stack_of, configuration_of, now_of, moved_on}
use Rattle.machine.specs.Ready.{StackFits, Ready}
use Rattle.machine.specs.Laws.Code.{decode-at}
use Rattle.machine.specs.Laws.Stack.{length-stack_of, move-leaves}
use Rattle.machine.specs.Laws.Loop.{ReadyForSome, fits-now}
use Rattle.choosing.specs.declared.log.Log.{Log}
use Rattle.choosing.specs.Logs.{Within}

module _ (p sub : List ℕ) where
  -- what is pending is emitted, whatever it is
  emitted : (pend : Trace) (now : Now) (t : Trace) → Emits p sub pend now t → (rest : Trace) × Emits p sub [] now rest
  unfolding Emits
  emitted [] now t h = (t, h)
  emitted (o ∷ os) now [] h = absurd h
  emitted (o ∷ os) now (e ∷ t) h = emitted os now t h.1

  behind : (c : Configuration) (t : Trace) → Emits p sub [] (busy c) t → (rest : Trace) × Emits p sub [] (move p sub c).after rest
  unfolding Emits
  behind c [] h = absurd h
  behind c (e ∷ t) h = emitted (move p sub c).more (move p sub c).after t h.2

  -- a move uses one of the moves that are left
  ready_on : {room left : ℕ} {first : List ℕ} {c : Configuration} {t : Trace} → Ready p sub room left first (busy c) t → 1 ≤ left → (rest : Trace) × Ready p sub room (left - 1) first (move p sub c).after rest
  ready_on {c = c} {t = t} h some =
      let z = behind c t h.emits in
      let w = move-leaves p sub c (fits-now p sub c t h.emits) h.fits in
      (z.0, record { emits = z.1; fits = w.fits; low = omega (arith, w.low, h.low); short = omega (arith, w.low, h.short); back = w.back ∙ h.back })

-- an end's move is to fall back
pub moved-end : (p sub regs work : List ℕ) (m : Machine) → get_or p m.pc 0 ≡ 9 → fall p regs (stack_of work m.height) ≡ moved_on p sub regs work m
unfolding move carry_out
moved-end p sub regs work m e = sym (ap (λ (i : Instruction). (carry_out p sub i m.at regs (stack_of work m.height)).after) (decode-at p m.pc 9 e))

-- At a machine that is ready for some moves, all that the next one reads and writes is in range ---------------------

module _ (p sub regs work : List ℕ) (m : Machine) (left : ℕ) (g : ReadyForSome p sub regs work m left) (live : m.live ≡ true) where
  at_work : Ready p sub (length work) left g.0 (busy (configuration_of regs work m)) g.1
  at_work = rw live at g.2

  pub fits-here : Fits p m.pc
  fits-here = fits-now p sub (configuration_of regs work m) g.1 at_work.emits

  pub stack-here : StackFits p (stack_of work m.height)
  stack-here = at_work.fits

  pub high-here : m.height < 2 ^ 32
  high-here = omega (arith, at_work.short, length-stack_of work m.height)

  module _ (some : 1 ≤ left) where
    pub room-here : 4 * m.height + 8 ≤ length work
    room-here = omega (arith, at_work.low, length-stack_of work m.height)

    pub moves-on : (regs' work' : List ℕ) (m' : Machine) → now_of regs' work' m' ≡ moved_on p sub regs work m → length work' ≡ length work → ReadyForSome p sub regs' work' m' (left - 1)
    moves-on regs' work' m' e w = let z = ready_on p sub at_work some in (g.0, z.0, rw (w, e) z.1)

-- As the loop holds it --------------------------------------------------------------------------------------------

-- at the rule's first node, from a start
pub ready-start : (p sub regs work : List ℕ) (entry at budget : ℕ) → (first : List ℕ) × (t : Trace) × Ready p sub (length work) budget first (go entry at regs []) t → (m : Machine) → now_of regs work m ≡ go entry at regs [] → ReadyForSome p sub regs work m budget
ready-start p sub regs work entry at budget y m e = (y.0, y.1, rw e y.2)

module _ (p sub regs₀ work₀ proposal₀ ways₀ : List ℕ) where
  pub record Going (regs work proposal ways : List ℕ) (rest : ℕ) (m : Machine) (log : Log) : Type 0 where
    pub size : length regs ≡ length regs₀
    pub wide : length work ≡ length work₀
    pub proposal_size : length proposal ≡ length proposal₀
    pub ways_size : length ways ≡ length ways₀
    pub within : Within proposal ways log
    pub ready : ReadyForSome p sub regs work m rest
