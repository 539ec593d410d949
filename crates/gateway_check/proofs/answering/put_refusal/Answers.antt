-- The buffer has room for an answer.
use native.Mathlib.Omega.{arith}
use Rattle.gateway_text.specs.Limits.{answer_room, span_room}
use Rattle.syntax.specs.Limits.{group_limit}
use Rattle.gateway_check.proofs.answering.put_refusal.Goals as goal

pub write_refusal-requires : goal.write_refusal-requires
unfolding answer_room span_room group_limit
write_refusal-requires c = omega arith
