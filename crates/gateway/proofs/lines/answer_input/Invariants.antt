use mathlib.Core.Path.{◌≡◌}
use Prim.Native.Nat.{◌≤◌}
use lib.ListN.{length}
use Rattle.gateway_answers.specs.Limits.{held_limit}
use Rattle.gateway.proofs.lines.answer_input.Given as goal

abbrev pub invariant-loop : goal.invariant-loop
invariant-loop g l = (l.have ≤ held_limit) × (length l.piece ≡ length l.initial.piece) × (length l.line ≡ length l.initial.line) × (length l.work_area ≡ length l.initial.work_area) × (length l.results ≡ length l.initial.results) × (length l.out ≡ length l.initial.out)
