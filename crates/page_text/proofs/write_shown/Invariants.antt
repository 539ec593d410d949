use mathlib.Core.Path.{◌≡◌}
use Prim.Native.Nat.{◌+◌, ◌*◌, ◌≤◌}
use lib.ListN.{length, take}
use Rattle.text.specs.Writing.{Wrote}
use Rattle.page_text.specs.Showing.{shown}
use Rattle.page_text.proofs.write_shown.Given as goal

abbrev pub invariant-loop-b : goal.invariant-loop-b
invariant-loop-b l = (length l.out ≡ length l.initial.out) × (l.end ≤ l.at + 16 * l.b-index) × Wrote l.initial.out l.at (shown (take l.b-index l.text)) l.out l.end
