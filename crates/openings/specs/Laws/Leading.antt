-- A node's move as a step that reaches no end; and the opening of a rule whose first node fails.
use Rattle.std.specs.Prelude.{◌≡◌, refl, List, [], ◌∷◌, ◌++◌, ℕ, ◌+◌, ◌≤◌, get_or}
use native.Mathlib.Omega.{arith}
use Rattle.semantics.specs.Walk.{Trace}
use Rattle.machine.specs.Code.{decode_as}
use Rattle.machine.specs.Moves.{Stack, Now, go, fall, carry_out, move}
use Rattle.machine.specs.Ready.{nothing, until, Leads, stay, onward, Ready}
use Rattle.machine.specs.Laws.Code.{decode-at}
use Rattle.machine.specs.Laws.Loop.{running-start, running-idle, running-led}
use Rattle.openings.specs.Failing.{Fails, AllFail}

module _ (p sub : List ℕ) where
  -- one move of a node that is no end and no run
  pub leads-move : (kind pc at : ℕ) (regs : List ℕ) (st : Stack) (there : Now) → get_or p pc 0 ≡ kind → kind ≤ 8 → (carry_out p sub (decode_as kind p pc) at regs st).after ≡ there → Leads p sub (go pc at regs st) 1 there
  unfolding move
  leads-move kind pc at regs st there is low e =
      let l : Leads p sub (go pc at regs st) 1 (move p sub (record { pc = pc; at = at; regs = regs; stack = st })).after = onward stay (rw is low) in
      rw (decode-at p pc kind is, e) at l

  pub fails-until : (entry at n room budget : ℕ) (first regs : List ℕ) (t : Trace) → Fails p sub at entry n → n ≤ budget → Ready p sub room budget first (go entry at regs []) t → until budget 0 t ≡ nothing n
  unfolding fall
  fails-until entry at n room budget first regs t f h x =
      let z : 0 + n ≡ n = omega arith in
      running-idle p sub room budget first t n regs (rw z at (running-led p sub room budget first t 0 n _ _ (f.back regs []) (omega arith) (running-start p sub room budget first t _ x)))

  pub all_split : (at : ℕ) (xs ys : List ℕ) (n : ℕ) → AllFail p sub at (xs ++ ys) n → (a : ℕ) × (b : ℕ) × (n ≡ a + b) × AllFail p sub at xs a × AllFail p sub at ys b
  all_split at [] ys n h = (0, n, omega arith, refl, h)
  all_split at (x ∷ xs) ys n h =
      let z = all_split at xs ys h.1 h.4 in
      (h.0 + z.0, z.1, omega (arith, h.2, z.2), (h.0, z.0, refl, h.3, z.3), z.4)
