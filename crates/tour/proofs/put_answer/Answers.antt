-- The areas are as long as the gateway's answer needs, and what it wrote ends within the room that every line finds.
use native.Mathlib.Omega.{arith}
use lib.ListN.{length-take}
use Rattle.syntax.specs.Limits.{group_limit, spans_length, row_length}
use Rattle.gateway_text.specs.Limits.{span_room, answer_room}
use Rattle.tour.proofs.put_answer.Goals as goal

pub answer-n-requires : goal.answer-n-requires
unfolding group_limit spans_length row_length span_room answer_room
answer-n-requires c = let s = c.requires.0.1 in record {
  lent = record { tree = s.tree; stands = s.stands; few = s.few; code_size = c.requires.1; work_area_fits = c.requires.2; results_fit = omega arith };
  answer_room_in_bounds = omega arith;
}

pub put_numbers-requires : goal.put_numbers-requires
unfolding group_limit
put_numbers-requires c = omega (arith, c.requires.0.1.few)

pub slice_bounds-out-end : goal.slice_bounds-out-end
unfolding group_limit span_room answer_room
slice_bounds-out-end c = let s = c.requires.0.1 in omega (arith, (c.answer-n.ensures.answered s.tree s.stands).near)

pub slice_bounds-put-end-2 : goal.slice_bounds-put-end-2
unfolding group_limit span_room answer_room
slice_bounds-put-end-2 c = let s = c.requires.0.1 in simp length-take (omega (arith, (c.answer-n.ensures.answered s.tree s.stands).near))
