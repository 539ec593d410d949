-- Going on behind branches that were passed over.
use Rattle.std.specs.Prelude.{◌≡◌, List, ℕ, ◌+◌, ◌≤◌}
use Rattle.machine.specs.declared.Machine.{Machine}
use Rattle.machine.specs.declared.Walked.{Walked}
use Rattle.machine.specs.Moves.{go}
use Rattle.machine.specs.Words.{stack_of, now_of}
use Rattle.machine.specs.Ready.{Leads}

-- Some steps more than `used`, none or within those that are left, lead on from a node, with the position and the stack as they were.
abbrev pub Onward : (p : List ℕ) → Machine → (pc used left : ℕ) → Walked → Type 0
Onward p m pc used left r = (n : ℕ) × (r.used ≡ used + n) × (used + n ≤ left) × ((sub regs work : List ℕ) → Leads p sub (go pc m.at regs (stack_of work m.height)) n (now_of regs work r.head))
