-- Branches: where one leads and, if its first item is a byte, where the two nodes lead: into the branch behind that byte, or to the next branch
-- with the stack as it was.
use Rattle.std.specs.Prelude.{◌≡◌, List, ◌∷◌, true, false, ℕ, ◌+◌, ◌≤◌, get_or, drop}
use native.Mathlib.Omega.{arith}
use Rattle.std.proofs.Math.Numerals.{add-one}
use Rattle.charset.specs.Class.{has}
use Rattle.semantics.specs.States.{moved}
use Rattle.semantics.specs.Walk.{step, miss}
use Rattle.machine.specs.Code.{Program}
use Rattle.machine.specs.Moves.{explore, Stack, Configuration, Now, busy, Move, emitting, paid, state, go, price, takes, fall, tried, carry_out, move}
use Rattle.machine.specs.Ready.{Leads, onward}
use Rattle.machine.specs.Laws.Code.{decode-at}
use Rattle.machine.specs.Laws.Extent.{tested-none, tested-one}

module _ (p : Program) (sub : List ℕ) where
  pub leads-on : {here : Now} {n kind : ℕ} {c : Configuration} {m : Move} → Leads p sub here n (busy c) → get_or p c.pc 0 ≡ kind → kind ≤ 8 → move p sub c ≡ m → Leads p sub here (n + 1) m.after
  leads-on {n = n} l is h e = rw (add-one n, ← e) (onward l (omega (arith, is)))

  module _ (pc at : ℕ) (regs : List ℕ) (st : Stack) where
    abbrev here : Configuration
    here = record { pc = pc; at = at; regs = regs; stack = st }

    move-branch : get_or p pc 0 ≡ 5 → move p sub here ≡ emitting step (go (get_or p (pc + 1) 0) at regs (explore (get_or p (pc + 2) 0) at ∷ st))
    unfolding move carry_out
    move-branch is = rw (decode-at p pc 5 is)

    module _ (is : get_or p pc 0 ≡ 0) where
      pub move-miss : takes sub (has (drop (pc + 3) p)) at ≡ false → move p sub here ≡ emitting (miss (get_or p (pc + 2) 0) at) (fall p regs st)
      unfolding move carry_out price paid tried
      move-miss e = rw (decode-at p pc 0 is, tested-none sub (has (drop (pc + 3) p)) (state at regs) e)

      move-hit : takes sub (has (drop (pc + 3) p)) at ≡ true → move p sub here ≡ emitting step (go (get_or p (pc + 1) 0) (at + 1) regs st)
      unfolding move carry_out price paid tried moved
      move-hit e = rw (decode-at p pc 0 is, tested-one sub (has (drop (pc + 3) p)) (state at regs) e, add-one at)

  module _ {from : Now} {n : ℕ} (pc at : ℕ) (regs : List ℕ) (st : Stack) (is : get_or p pc 0 ≡ 5) (l : Leads p sub from n (go pc at regs st)) where
    abbrev body : ℕ
    body = get_or p (pc + 1) 0

    abbrev other : ℕ
    other = get_or p (pc + 2) 0

    pub leads-branch : Leads p sub from (n + 1) (go body at regs (explore other at ∷ st))
    leads-branch = leads-on l is (omega arith) (move-branch pc at regs st is)

    module _ (byte : get_or p body 0 ≡ 0) where
      pub leads-passed : takes sub (has (drop (body + 3) p)) at ≡ false → Leads p sub from (n + 2) (go other at regs st)
      unfolding fall
      leads-passed e = let z : n + 2 ≡ n + 1 + 1 = omega arith in rw z (leads-on leads-branch byte (omega arith) (move-miss body at regs (explore other at ∷ st) byte e))

      pub leads-taken : takes sub (has (drop (body + 3) p)) at ≡ true → Leads p sub from (n + 2) (go (get_or p (body + 1) 0) (at + 1) regs (explore other at ∷ st))
      leads-taken e = let z : n + 2 ≡ n + 1 + 1 = omega arith in rw z (leads-on leads-branch byte (omega arith) (move-hit body at regs (explore other at ∷ st) byte e))
