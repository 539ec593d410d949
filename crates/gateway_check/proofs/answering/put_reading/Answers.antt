-- The text has room for an answer.
use native.Mathlib.Omega.{arith}
use Rattle.gateway_text.specs.Limits.{answer_room, span_room}
use Rattle.syntax.specs.Limits.{group_limit, spans_length, row_length}
use Rattle.gateway_check.proofs.answering.put_reading.Goals as goal

pub write_matched-end-requires : goal.write_matched-end-requires
unfolding answer_room span_room group_limit spans_length row_length
write_matched-end-requires c = (omega arith, omega (arith, c.requires), omega arith)
