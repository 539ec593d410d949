-- The buffer has room for an answer.
use native.Mathlib.Omega.{arith}
use Rattle.gateway_text.specs.Limits.{answer_room, span_room}
use Rattle.syntax.specs.Limits.{group_limit}
use Rattle.gateway_check.proofs.answering.put_unreadable.Goals as goal

pub write_unreadable-requires : goal.write_unreadable-requires
unfolding answer_room span_room group_limit
write_unreadable-requires c = omega arith
