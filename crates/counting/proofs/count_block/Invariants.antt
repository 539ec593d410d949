use mathlib.Core.Path.{◌≡◌}
use Prim.Native.Nat.{◌≤◌}
use lib.ListN.{take, drop}
use Rattle.semantics.specs.BatchDemands.{newlines}
use Rattle.counting.proofs.count_block.Given as goal

abbrev pub invariant-loop-i : goal.invariant-loop-i
invariant-loop-i l = (l.i ≤ l.size) × (l.count ≤ l.i) × (l.count ≡ newlines (take l.i (drop l.from l.buffer)))
