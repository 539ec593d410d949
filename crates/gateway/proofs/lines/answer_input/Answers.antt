-- What is held stays within its room, and the areas keep their lengths.
use native.Mathlib.Omega.{arith}
use Rattle.gateway_answers.specs.Laws.Calls.{lent_still}
use Rattle.gateway.proofs.lines.answer_input.Goals as goal

pub end_input-requires : goal.end_input-requires
end_input-requires g c = let v = c.loop.invariant in
    let r = c.requires.held_limit_in_bounds.1 in
    record {
      lent = lent_still c.requires.lent (omega arith) (omega arith);
      answer_room_in_bounds = omega arith;
    }

pub answer_piece-requires : goal.answer_piece-requires
answer_piece-requires g c = let v = c.loop.invariant in
    record {
      lent = lent_still c.requires.lent v.3 v.4;
      held_le_held_limit = (omega arith, omega arith, omega arith);
    }
