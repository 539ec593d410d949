use Rattle.gateway_text.specs.Limits.{span_room}
use mathlib.Core.Path.{◌≡◌}
use Prim.Native.Nat.{◌≤◌, ◌+◌, ◌*◌}
use lib.ListN.{length}
use Rattle.text.specs.Writing.{Wrote}
use Rattle.gateway_text.specs.Lines.{spans}
use Rattle.gateway_text.proofs.write_spans.Given as goal

abbrev pub invariant-loop-i : goal.invariant-loop-i
invariant-loop-i l = Wrote l.initial.out l.at (spans l.row l.i) l.out l.end × (l.end ≤ l.at + span_room * l.i) × (length l.out ≡ length l.initial.out)
