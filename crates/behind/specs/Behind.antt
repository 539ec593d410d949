-- What stands behind a group's end. Where its byte is missing the nodes fail one after the other, whatever the stack.
use Rattle.std.specs.Prelude.{◌≡◌, List, Bool, true, false, ℕ, ◌+◌, ◌≤◌, get_or}
use Rattle.machine.specs.declared.Machine.{Machine}
use Rattle.machine.specs.Moves.{Stack, go, fall}
use Rattle.machine.specs.Ready.{Leads}
use Rattle.behind.specs.declared.Behind.{Behind}
use Rattle.behind.specs.declared.Behind.TheVariants.{Missing, There, NoByte}

-- a node of one step fails here, with any registers
abbrev pub Lacks : (p sub : List ℕ) → (pc at : ℕ) → Bool → Type 0
Lacks p sub pc at true = (regs : List ℕ) (st : Stack) → Leads p sub (go pc at regs st) 1 (fall p regs st)
Lacks p sub pc at false = Unit {0}

abbrev pub Told : (p sub regs : List ℕ) → Machine → Behind → Type 0
Told p sub regs m (Missing n) = (1 ≤ n) × (n ≤ 3) × ((st : Stack) → Leads p sub (go m.pc m.at regs st) n (fall p regs st))
Told p sub regs m There = get_or p (get_or p (m.pc + 1) 0) 0 ≡ 0
Told p sub regs m NoByte = Unit {0}
