-- To the end of the line or of the piece; then the line is answered, or what there is of it is held.
use native.Mathlib.Omega.{arith}
use mathlib.Core.List.{[]}
use lib.ListN.{take, length-take}
use Rattle.text.specs.Laws.Writing.{wrote_nothing}
use Rattle.gateway_answers.specs.Limits.{held_limit}
use Rattle.gateway_answers.specs.Answers.{answer_line}
use Rattle.gateway_line.specs.Laws.Streams.{end_within, held_on, answered_at}
use borrow.Author.Rules.{rules}
use Rattle.gateway_line.proofs.streaming.advance.Goals as goal

pub slice_bounds-gather-end : goal.slice_bounds-gather-end
slice_bounds-gather-end c = let a = c.args in
    (end_within a.piece.now a.p.at c.line_end-end.result c.requires.at_in_bounds.0 c.line_end-end.ensures).1

pub gather-held-requires : goal.gather-held-requires
unfolding held_limit
gather-held-requires c = search rules

pub returns-then-end-piece : goal.returns-then-end-piece
unfolding held_limit
returns-then-end-piece c = let a = c.args in
    let p = c.requires.at_in_bounds in
    let w = end_within a.piece.now a.p.at c.line_end-end.result p.0 c.line_end-end.ensures in
    let t = c.if-end-piece.true in record {
      onward = record { within = w.1; moves = λ h. omega arith; fits = c.gather-held.ensures.fits; near = omega arith };
      advanced = λ tree stands. record {
        text = [];
        wrote = wrote_nothing a.out.now a.p.put;
        goes_on = held_on (tree, a.groups) a.piece.now a.line.now a.p.at a.p.have c.line_end-end.result c.gather-held.result p.0 c.line_end-end.ensures c.gather-held.ensures t;
      };
    }

pub slice_bounds-answer-end : goal.slice_bounds-answer-end
unfolding held_limit
slice_bounds-answer-end c = search rules

pub slice_bounds-answer-end-2 : goal.slice_bounds-answer-end-2
unfolding held_limit
slice_bounds-answer-end-2 c = simp length-take (omega (arith, c.gather-held.ensures.size, c.gather-held.ensures.fits))

pub overflow_add-result : goal.overflow_add-result
overflow_add-result c = let a = c.args in
    let w = end_within a.piece.now a.p.at c.line_end-end.result c.requires.at_in_bounds.0 c.line_end-end.ensures in
    let t = c.if-end-piece.false in
    let g = c.well_formed.1.1.1.0 in
    omega (arith, g.0)

pub returns : goal.returns
unfolding held_limit
returns c = let a = c.args in
    let p = c.requires.at_in_bounds in
    let w = end_within a.piece.now a.p.at c.line_end-end.result p.0 c.line_end-end.ensures in
    let t = c.if-end-piece.false in
    let s = c.requires.lent in record {
      onward = record { within = omega arith; moves = λ h. omega arith; fits = omega arith; near = (c.answer-behind.ensures.answered s.tree s.stands).near };
      advanced = λ tree stands. record {
        text = answer_line (tree, a.groups) (take c.gather-held.result c.gather-held.new.line);
        wrote = (c.answer-behind.ensures.answered tree stands).wrote;
        goes_on = answered_at (tree, a.groups) a.piece.now a.line.now a.p.at a.p.have c.line_end-end.result c.gather-held.result p.0 c.line_end-end.ensures c.gather-held.ensures t;
      };
    }
