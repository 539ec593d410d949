-- What is held and what waits in the output stay within their rooms, and the position moves on within the piece.
use native.Mathlib.Omega.{arith}
use lib.ListN.{length-take}
use Rattle.gateway_answers.specs.Laws.Calls.{lent_still}
use Rattle.gateway.proofs.lines.answer_piece.Goals as goal

pub advance-q-requires : goal.advance-q-requires
advance-q-requires c = let v = c.loop-at.invariant in
    record {
      lent = lent_still c.requires.lent v.4 v.5;
      at_in_bounds = (omega arith, omega arith, omega arith, omega arith);
    }

pub make_room-requires : goal.make_room-requires
make_room-requires c = let v = c.loop-at.invariant in
    let o = c.advance-q.ensures.onward in
    (omega arith, omega arith)

pub loop-at-smaller : goal.loop-at-smaller
loop-at-smaller c = let o = c.advance-q.ensures.onward in
    let m = o.moves c.loop-at-test.true in
    omega arith

pub loop-at-preserved : goal.loop-at-preserved
loop-at-preserved c = let o = c.advance-q.ensures.onward in
    (o.within, o.fits, omega (arith, c.in_ok-put.ensures), omega arith, omega arith, omega arith, omega arith)

pub slice_bounds-write_all-end-2 : goal.slice_bounds-write_all-end-2
slice_bounds-write_all-end-2 c = simp length-take (omega arith)

pub shape_of-line : goal.shape_of-line
shape_of-line c = c.loop-at.invariant.3

pub shape_of-work_area : goal.shape_of-work_area
shape_of-work_area c = c.loop-at.invariant.4

pub shape_of-results : goal.shape_of-results
shape_of-results c = c.loop-at.invariant.5

pub shape_of-out : goal.shape_of-out
shape_of-out c = c.loop-at.invariant.6

pub returns : goal.returns
returns c = c.loop-at.invariant.1
