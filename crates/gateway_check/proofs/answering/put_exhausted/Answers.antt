-- The text has room for an answer, and what is put is a part of it.
use native.Mathlib.Omega.{arith}
use lib.ListN.{length-take}
use Rattle.gateway_text.specs.Limits.{answer_room, span_room}
use Rattle.syntax.specs.Limits.{group_limit}
use Rattle.gateway_check.proofs.answering.put_exhausted.Goals as goal

pub write_exhausted-end-requires : goal.write_exhausted-end-requires
unfolding answer_room span_room group_limit
write_exhausted-end-requires c = omega arith

pub slice_bounds-put-end : goal.slice_bounds-put-end
slice_bounds-put-end c = simp length-take (omega arith)
