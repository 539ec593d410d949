use mathlib.Core.Path.{◌≡◌}
use Prim.Native.Nat.{◌+◌, ◌≤◌}
use Rattle.std.proofs.Common.{max, length, drop}
use Rattle.text.specs.Lines.{line_length}
use Rattle.text.proofs.skip_blocks.Given as goal

abbrev pub invariant-loop-i : goal.invariant-loop-i
invariant-loop-i l = (l.i ≤ max l.from (length l.input)) × (l.i + line_length (drop l.i l.input) ≡ l.from + line_length (drop l.from l.input))
