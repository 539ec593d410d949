-- What callers use. Where a rule stands compiled and the registers are clear, the machine at the rule's first node is ready to emit the
-- rule's trace from a start (`begins`). From there on `Ready` is all that a caller's loop needs. What a run tells is an equation about
-- `until`; Laws.Loop says where in the trace that is (`until-ended` and the like). After an end (`at-end`) falling back makes the machine
-- ready again (`resumes`). Where nothing is left (`at-nothing`) the registers are as they were, clear for the next start.
-- docs/REFERENCE.md, 14.2
use Rattle.std.specs.Prelude.{◌≡◌, refl, List, [], ◌∷◌, ℕ, zero, suc, ◌*◌, ◌-◌, ◌^◌, ◌≤◌, ◌<◌, length, get_or, take, replicate}
use Rattle.std.proofs.Common.{sym, arith}
use Rattle.std.proofs.lemmas.List.{length-replicate}
use Rattle.syntax.specs.Limits.{unset, work_per_step, spans_length, registers}
use Rattle.syntax.specs.Tree.{Rule}
use Rattle.syntax.specs.Compiled.{Compiled}
use Rattle.semantics.specs.States.{State, starting}
use Rattle.semantics.specs.Walk.{Trace, trace}
use Rattle.machine.specs.declared.Machine.{Machine}
use Rattle.machine.specs.declared.Stop.TheVariants.{End, Nothing, Spent}
use Rattle.machine.specs.Code.{Program}
use Rattle.machine.specs.Moves.{Bytes, go, fall}
use Rattle.machine.specs.Words.{stack_of, now_of}
use Rattle.machine.specs.Ready.{Found, ended, nothing, spent, replay, Ready, Reached, Agrees, at_end, all_tried, out_of_steps}
use Rattle.machine.specs.Laws.Code.{spans-in-registers}
use Rattle.machine.specs.Laws.Walk.{whole}

-- Before a walk -----------------------------------------------------------------

-- the rule x stands in the area, is entered at pc, and goes on at the end node, which stands first
pub record Stands (p : Program) (x : Rule) (pc : ℕ) : Type 0 where
  pub low : ℕ
  pub high : ℕ
  pub within : high ≤ length p
  pub end : get_or p 0 0 ≡ 9
  pub compiled : Compiled p low high x pc 0 spans_length

-- no group is set; the other registers may have anything
pub record Clear (regs : List ℕ) : Type 0 where
  pub size : length regs ≡ registers
  pub spans : take spans_length regs ≡ replicate spans_length unset

take-replicate : (n m a : ℕ) → n ≤ m → take n (replicate m a) ≡ replicate n a
take-replicate zero m a h = refl
take-replicate (suc n) zero a h = absurd (omega arith)
take-replicate (suc n) (suc m) a h = rw (take-replicate n m a (omega arith))

pub clear-all : Clear (replicate registers unset)
clear-all = record { size = length-replicate registers unset; spans = take-replicate spans_length registers unset spans-in-registers }

end-inside : (p : Program) → get_or p 0 0 ≡ 9 → 0 < length p
end-inside [] e = absurd (omega arith)
end-inside (n ∷ p) e = omega arith

-- Two frames for each step are room enough.
pub begins : (p sub : List ℕ) (x : Rule) (pc start budget room : ℕ) (regs : List ℕ) → Stands p x pc → Bytes sub → Clear regs → start ≤ length sub → 8 * budget ≤ room → 2 * budget < 2 ^ 32
    → Ready p sub room budget regs (go pc start regs []) (trace sub x start)
unfolding starting trace replay
begins p sub x pc start budget room regs h bytes clear inside wide short = record {
  emits = whole p sub h.low h.high h.within bytes x pc 0 (starting start) regs h.compiled (end-inside p h.end, h.end) (record { inside = inside; size = clear.size; spans = sym clear.spans });
  fits = tt;
  low = omega arith;
  short = omega arith;
  back = refl;
}

-- The work area has twice as much.
pub enough-room : (budget room : ℕ) → work_per_step * budget ≤ room → 8 * budget ≤ room
unfolding work_per_step
enough-room budget room h = omega arith

-- After a run --------------------------------------------------------------------

module _ {p sub : List ℕ} {room budget : ℕ} {first regs work : List ℕ} where
  pub at-end : {x : Found} {n : ℕ} {m : Machine} → Agrees p sub room budget first regs work x (End n m) → (s : State) × (rest : Trace) × (x ≡ ended n s rest) × Reached p sub room budget first n s rest m regs work
  at-end (at_end r) = (_, _, refl, r)

  pub resumes : {n : ℕ} {s : State} {rest : Trace} {m : Machine} → Reached p sub room budget first n s rest m regs work → (regs' work' : List ℕ) (m' : Machine) → now_of regs' work' m' ≡ fall p regs (stack_of work m.height)
      → Ready p sub room (budget - n) first (now_of regs' work' m') rest
  resumes x regs' work' m' e = rw e x.ready

  pub at-nothing : {x : Found} {n : ℕ} → Agrees p sub room budget first regs work x (Nothing n) → (x ≡ nothing n) × (n ≤ budget) × (regs ≡ first)
  at-nothing (all_tried l e) = (refl, l, e)

  pub at-spent : {x : Found} → Agrees p sub room budget first regs work x Spent → x ≡ spent
  at-spent out_of_steps = refl
