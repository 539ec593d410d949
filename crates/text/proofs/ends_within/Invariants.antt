use mathlib.Core.Path.{◌≡◌}
use mathlib.Core.Bool.{false}
use Prim.Native.Nat.{◌+◌, ◌≤◌}
use lib.ListN.{drop}
use Rattle.text.specs.Lines.{line_length}
use Rattle.text.proofs.ends_within.Given as goal

abbrev pub invariant-loop-i : goal.invariant-loop-i
invariant-loop-i l = (l.i ≤ 16) × (l.found ≡ false → line_length (drop l.from l.input) ≡ l.i + line_length (drop (l.from + l.i) l.input))
