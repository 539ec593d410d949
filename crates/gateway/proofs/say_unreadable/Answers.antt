-- The line fits the output.
use native.Mathlib.Omega.{arith}
use lib.ListN.{length-take}
use Rattle.gateway_text.specs.Limits.{answer_room}
use Rattle.gateway.proofs.say_unreadable.Goals as goal

pub slice_bounds-write_all-end-2 : goal.slice_bounds-write_all-end-2
unfolding answer_room
slice_bounds-write_all-end-2 c = simp length-take (omega (arith, c.write_unreadable-n.ensures.near, c.write_unreadable-n.auto.out))
