use mathlib.Core.Path.{◌≡◌}
use Prim.Native.Nat.{◌+◌, ◌-◌, ◌≤◌, max}
use Rattle.charset.specs.Class.{has}
use Rattle.machine.specs.Moves.{extent}
use Rattle.run_ends.proofs.bytes_end.Given as goal

abbrev pub invariant-loop-i : goal.invariant-loop-i
invariant-loop-i l = (l.i ≤ max l.at l.stop) × (l.i + extent l.sub (has l.class) (l.stop - l.i) l.i ≡ l.at + extent l.sub (has l.class) (l.stop - l.at) l.at)
