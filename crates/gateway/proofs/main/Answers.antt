-- Every line fits the output.
use native.Mathlib.Omega.{arith}
use Rattle.gateway_text.specs.Limits.{answer_room}
use Rattle.gateway.proofs.main.Goals as goal

pub say_unreadable-requires : goal.say_unreadable-requires
unfolding answer_room
say_unreadable-requires c = omega (arith, c.large_buffer-out.ensures)

pub serve_or_refuse-requires : goal.serve_or_refuse-requires
unfolding answer_room
serve_or_refuse-requires c = omega (arith, c.large_buffer-out.ensures)

pub say_unreadable-requires-in-Err : goal.say_unreadable-requires-in-Err
unfolding answer_room
say_unreadable-requires-in-Err c = omega (arith, c.large_buffer-out.ensures)
