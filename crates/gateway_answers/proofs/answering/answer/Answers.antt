-- A line within the limit is matched, and what the match tells is said as the answer.
use mathlib.Core.Path.{refl}
use native.Mathlib.Omega.{arith}
use Prim.Native.Nat.{◌≤◌, ◌<◌}
use lib.ListN.{length, length-take}
use Rattle.syntax.specs.Limits.{group_limit, spans_length, row_length}
use Rattle.gateway_answers.specs.Limits.{line_limit, gateway_budget}
use Rattle.gateway_answers.specs.Laws.Calls.{long_answer, lent_held, left_long, left_reported, told_says}
use Rattle.gateway_answers.proofs.answering.answer.Goals as goal

pub returns-then-line-gt-LINE_LIMIT : goal.returns-then-line-gt-LINE_LIMIT
unfolding line_limit
returns-then-line-gt-LINE_LIMIT c = let a = c.args in
    let h : line_limit < length a.line.now = omega arith in
    record {
      answered = λ tree stands. rw (long_answer (tree, a.groups) a.line.now h) c.write_too_long.ensures;
      left = record { work_area_rest = refl; results_are = λ tree stands. left_long tree a.line.now a.results.now h };
    }

pub match_held-outcome-requires : goal.match_held-outcome-requires
unfolding gateway_budget line_limit
match_held-outcome-requires c = let a = c.args in
    let h : length a.line.now ≤ line_limit = omega arith in
    (lent_held c.requires.lent a.line.now h, c.requires.lent.results_fit)

pub slice_bounds-tell-end : goal.slice_bounds-tell-end
unfolding row_length spans_length group_limit
slice_bounds-tell-end c = omega arith

pub slice_bounds-tell-end-2 : goal.slice_bounds-tell-end-2
unfolding row_length spans_length group_limit
slice_bounds-tell-end-2 c = simp length-take (omega arith)

pub tell-requires : goal.tell-requires
unfolding row_length spans_length group_limit
tell-requires c = (simp length-take (omega arith), c.requires.lent.few, omega arith)

pub returns : goal.returns
unfolding row_length spans_length group_limit gateway_budget line_limit
returns c = let a = c.args in
    let h : length a.line.now ≤ line_limit = omega arith in
    let m = c.match_held-outcome in record {
      answered = λ tree stands. rw (told_says tree a.groups a.line.now h m.result a.results.now _ (m.ensures.finds tree stands)) at c.tell.ensures;
      left = record { work_area_rest = m.ensures.work_unchanged; results_are = λ tree stands. left_reported tree a.groups a.line.now h m.result a.results.now _ (m.ensures.finds tree stands) };
    }
