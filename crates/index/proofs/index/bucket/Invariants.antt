use mathlib.Core.Path.{◌≡◌}
use lib.ListN.{take}
use Rattle.index.specs.Index.{mix, mixed}
use Rattle.index.proofs.index.bucket.Given as goal

abbrev pub invariant-loop-i : goal.invariant-loop-i
invariant-loop-i l = l.h ≡ mixed (mix 0 l.stop) (take l.i l.registers)
