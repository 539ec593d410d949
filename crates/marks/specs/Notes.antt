-- Where negative looking ahead is entered, with a note in place of the position.
use Rattle.std.specs.Prelude.{List, ◌∷◌, ℕ, ◌+◌, length, get_or}
use Rattle.machine.specs.Code.{Program}
use Rattle.machine.specs.Moves.{explore, Stack, Now, go_set}

abbrev pub forbidden : Program → (regs : List ℕ) → Stack → (pc at note : ℕ) → Now
forbidden p regs st pc at note = go_set (get_or p (pc + 2) 0) (length st) note (get_or p (pc + 1) 0) at regs (explore (get_or p (pc + 3) 0) at ∷ st)
