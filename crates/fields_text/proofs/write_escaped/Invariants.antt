use mathlib.Core.Path.{◌≡◌}
use Prim.Native.Nat.{◌+◌, ◌*◌, ◌≤◌}
use lib.ListN.{length, take}
use Rattle.text.specs.Writing.{Wrote}
use Rattle.fields_text.specs.Escaping.{escaped}
use Rattle.fields_text.proofs.write_escaped.Given as goal

abbrev pub invariant-loop-b : goal.invariant-loop-b
invariant-loop-b l = (length l.out ≡ length l.initial.out) × (l.end ≤ l.at + 4 * l.b-index) × Wrote l.initial.out l.at (escaped (take l.b-index l.field)) l.out l.end
