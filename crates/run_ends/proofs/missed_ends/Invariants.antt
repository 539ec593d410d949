use Prim.Native.Nat.{◌≤◌}
use Rattle.charset.specs.Class.{has}
use Rattle.machine.specs.Ready.{Missed}
use Rattle.run_ends.proofs.missed_ends.Given as goal

abbrev pub invariant-loop-n : goal.invariant-loop-n
invariant-loop-n l = (l.n ≤ l.most) × Missed l.sub (has l.class) l.high l.n
