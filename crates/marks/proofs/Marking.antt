-- Entering a held part or looking ahead, in the code's numbers; and which kind of node is left when the others are excluded. Assumes nothing.
use mathlib.Core.Path.{◌≡◌, ap}
use mathlib.Core.List.{List, ◌∷◌}
use Prim.Native.Nat.{ℕ, suc, ◌+◌, ◌-◌, ◌≤◌, ◌<◌}
use native.Mathlib.Omega.{arith}
use native.Mathlib.Decide.{dec_lt}
use lib.ListN.{length, get_or}
use Rattle.machine.specs.declared.Machine.{Machine}
use Rattle.machine.specs.Code.{decode, FitsAs}
use Rattle.machine.specs.Moves.{explore, set2, saved, go, go_set, move}
use Rattle.machine.specs.Words.{stack_of, moved_on, carried}
use Rattle.machine.specs.Laws.Stack.{length-stack_of}

-- the height is the number of frames
pub go-marked : (pc at h h' i : ℕ) (regs regs' work work' : List ℕ) → h' ≡ h + 1 → regs' ≡ set2 regs i h at → stack_of work' (h + 1) ≡ saved regs i ∷ stack_of work h → go pc at regs' (stack_of work' h') ≡ go_set i (length (stack_of work h)) at pc at regs (stack_of work h)
go-marked pc at h h' i regs regs' work work' e f g = rw (e, f, g, length-stack_of work h)

pub go-forbidden : (pc at n h k h' i next : ℕ) (regs regs' work work' work'' : List ℕ) → k ≡ h + 1 → stack_of work' (h + 1) ≡ explore next at ∷ stack_of work h → h' ≡ k + 1 → regs' ≡ set2 regs i h n → stack_of work'' (k + 1) ≡ saved regs i ∷ stack_of work' k
    → go pc at regs' (stack_of work'' h') ≡ go_set i (length (stack_of work h)) n pc at regs (explore next at ∷ stack_of work h)
go-forbidden pc at n h k h' i next regs regs' work work' work'' e₀ e₁ e₂ e₃ e₄ =
    let z : stack_of work' k ≡ explore next at ∷ stack_of work h = rw e₀ e₁ in
    rw (e₂, e₃, e₄, z, length-stack_of work h)

-- a move, where the node's kind is known
pub moved_as : (p sub regs work : List ℕ) (m : Machine) (kind : ℕ) → get_or p m.pc 0 ≡ kind → moved_on p sub regs work m ≡ carried kind p sub regs work m
unfolding move decode
moved_as p sub regs work m kind e = ap (λ (k : ℕ). carried k p sub regs work m) e

-- no node is of a kind above 17
none_above : (p : List ℕ) (pc n : ℕ) → 18 ≤ n → FitsAs n p pc → ⊥
none_above p pc n h f = let e : n ≡ suc (suc (suc (suc (suc (suc (suc (suc (suc (suc (suc (suc (suc (suc (suc (suc (suc (suc (n - 18)))))))))))))))))) = omega arith in rw e at f

pub only-refute : (p : List ℕ) (pc n : ℕ) → 13 ≤ n → (n ≡ 13 → ⊥) → (n ≡ 14 → ⊥) → (n ≡ 15 → ⊥) → (n ≡ 16 → ⊥) → FitsAs n p pc → n ≡ 17
only-refute p pc n h a b c d f = by (dec_lt n 18)
  where
    by : Dec (n < 18) → n ≡ 17
    by (yes l) = omega arith
    by (no l) = absurd (none_above p pc n (omega arith) f)
