-- There is room, or all of it is free.
use native.Mathlib.Omega.{arith}
use lib.ListN.{length-take}
use Rattle.gateway_text.specs.Limits.{answer_room}
use Rattle.gateway.proofs.lines.make_room.Goals as goal

pub returns-then-out-put-ge-ANSWER_ROOM : goal.returns-then-out-put-ge-ANSWER_ROOM
unfolding answer_room
returns-then-out-put-ge-ANSWER_ROOM c = omega arith

pub slice_bounds-write_all-end : goal.slice_bounds-write_all-end
slice_bounds-write_all-end c = simp length-take (omega arith)
