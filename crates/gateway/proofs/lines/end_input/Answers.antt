-- The line fits the output.
use native.Mathlib.Omega.{arith}
use lib.ListN.{length-take}
use Rattle.gateway_text.specs.Limits.{answer_room}
use Rattle.gateway.proofs.lines.end_input.Goals as goal

pub slice_bounds-write_all-end : goal.slice_bounds-write_all-end
unfolding answer_room
slice_bounds-write_all-end c = let s = c.requires.lent in
    let n = (c.finish-put.ensures s.tree s.stands).near in
    omega arith

pub slice_bounds-write_all-end-2 : goal.slice_bounds-write_all-end-2
unfolding answer_room
slice_bounds-write_all-end-2 c = let s = c.requires.lent in
    let n = (c.finish-put.ensures s.tree s.stands).near in
    simp length-take (omega arith)
