use mathlib.Core.Path.{◌≡◌}
use Prim.Native.Nat.{◌+◌, ◌*◌, ◌≤◌}
use lib.ListN.{length, take}
use Rattle.text.specs.Writing.{Wrote}
use Rattle.card_text.specs.Text.{each}
use Rattle.card_text.proofs.write_each.Given as goal

abbrev pub invariant-loop-b : goal.invariant-loop-b
invariant-loop-b l = (length l.out ≡ length l.initial.out) × (l.end ≤ l.at + 4 * l.b-index) × Wrote l.initial.out l.at (each l.under (take l.b-index l.rule)) l.out l.end
