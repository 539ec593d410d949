use mathlib.Core.Path.{◌≡◌}
use Prim.Native.Nat.{◌+◌, ◌-◌, ◌≤◌}
use lib.ListN.{length}
use Rattle.gateway_text.specs.Limits.{answer_room}
use Rattle.gateway_answers.specs.Limits.{held_limit}
use Rattle.gateway.proofs.lines.answer_piece.Given as goal

abbrev pub invariant-loop-at : goal.invariant-loop-at
invariant-loop-at l = (l.at ≤ length l.piece) × (l.have ≤ held_limit) × (l.put + answer_room ≤ length l.initial.out) × (length l.line ≡ length l.initial.line) × (length l.work_area ≡ length l.initial.work_area) × (length l.results ≡ length l.initial.results) × (length l.out ≡ length l.initial.out)

abbrev pub decreases-loop-at : goal.decreases-loop-at
decreases-loop-at l = length l.piece - l.at
