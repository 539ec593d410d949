-- What the code's numbers stand for: the work area holds the stack, and a `Machine` tells where the machine stands.
use Rattle.std.specs.Prelude.{◌≡◌, ◌⊎◌, List, [], ◌∷◌, Bool, true, false, ℕ, zero, suc, ◌+◌, ◌*◌, ◌≤◌, ◌<◌, get_or}
use Rattle.machine.specs.declared.Counter.{Counter}
use Rattle.machine.specs.declared.Machine.{Machine}
use Rattle.machine.specs.Code.{repeat_at, decode_as}
use Rattle.machine.specs.Moves.{Frame, explore, again, undo, stretch, Stack, Configuration, Now, idle, busy, bytes_of, carry_out, move}

-- A frame takes four numbers, the first of which is its kind. An undo frame has its register between the two values: side by side, they would
-- be read as one word of 64 bits just after they were written as two of 32, and that stalls.
unfoldable pub frame_of : (kind a b c : ℕ) → Frame
frame_of zero a b c = explore a b
frame_of (suc zero) a b c = again a b c
frame_of (suc (suc zero)) a b c = stretch a b c
frame_of (suc (suc (suc n))) a b c = undo b a c

unfoldable pub frame_at : List ℕ → ℕ → Frame
frame_at work h = frame_of (get_or work (4 * h) 0) (get_or work (4 * h + 1) 0) (get_or work (4 * h + 2) 0) (get_or work (4 * h + 3) 0)

-- the first h frames of a work area, the newest first
unfoldable pub stack_of : List ℕ → ℕ → Stack
stack_of work zero = []
stack_of work (suc h) = frame_at work h ∷ stack_of work h

abbrev pub configuration_of : List ℕ → List ℕ → Machine → Configuration
configuration_of regs work m = record { pc = m.pc; at = m.at; regs = regs; stack = stack_of work m.height }

abbrev pub pick_now : Bool → Now → Now → Now
pick_now true a b = a
pick_now false a b = b

abbrev pub now_of : List ℕ → List ℕ → Machine → Now
now_of regs work m = pick_now m.live (busy (configuration_of regs work m)) (idle regs)

-- what a repeat's registers have
abbrev pub Counted : List ℕ → Counter → Type 0
Counted regs k = (k.rounds ≡ get_or regs k.register 0) × (k.from ≡ get_or regs (k.register + 1) 0)

-- what one move leaves
abbrev pub moved_on : (p sub regs work : List ℕ) → Machine → Now
moved_on p sub regs work m = (move p sub (configuration_of regs work m)).after

-- the same, where the node is of a known kind
abbrev pub carried : ℕ → (p sub regs work : List ℕ) → Machine → Now
carried kind p sub regs work m = (carry_out p sub (decode_as kind p m.pc) m.at regs (stack_of work m.height)).after

-- k is how many bytes the run at pc takes; or it is fewer, and these take more steps than are left
abbrev pub Measured : (p sub : List ℕ) → (pc at left k : ℕ) → Type 0
Measured p sub pc at left k = (k ≡ bytes_of p sub (repeat_at p (pc + 2)) 0 at) ⊎ ((k ≤ bytes_of p sub (repeat_at p (pc + 2)) 0 at) × (left < 2 * k + 1))
