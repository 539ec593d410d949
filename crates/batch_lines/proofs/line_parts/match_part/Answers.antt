-- `match_part` meets its contract: what is lent on is the row, and then the four numbers behind it, which together are the whole part.
use mathlib.Core.Path.{◌≡◌, refl, ap, ◌∙◌}
use mathlib.Core.List.{List, ◌++◌}
use Prim.Native.Nat.{ℕ}
use native.Mathlib.Omega.{arith}
use lib.ListN.{length, length-take, length-drop, length-append}
use lib.Seq.{length-take-le}
use Rattle.syntax.specs.Limits.{group_limit, spans_length, row_length, part_length}
use Rattle.frame.specs.Inputs.{between}
use Rattle.finding.specs.Outcomes.{outcome_of}
use Rattle.batch_lines.specs.Laws.Parts.{part-whole, part-told}
use Rattle.batch_lines.proofs.line_parts.match_part.Goals as goal

pub slice_bounds-match_one-end : goal.slice_bounds-match_one-end
unfolding part_length row_length spans_length group_limit
slice_bounds-match_one-end c = omega (arith, c.requires.4)

pub slice_bounds-match_one-end-2 : goal.slice_bounds-match_one-end-2
unfolding part_length row_length spans_length group_limit
slice_bounds-match_one-end-2 c = simp length-take (omega (arith, c.requires.4))

pub match_one-outcome-requires : goal.match_one-outcome-requires
unfolding part_length row_length spans_length group_limit
match_one-outcome-requires c = (c.requires.0, c.requires.1, c.requires.2, c.requires.3, simp length-take (omega (arith, c.requires.4)), c.requires.5, c.requires.6)

pub slice_bounds-tell-end : goal.slice_bounds-tell-end
unfolding part_length row_length spans_length group_limit
slice_bounds-tell-end c = let m = c.match_one-outcome in
    simp (length-append, length-drop) (omega (arith, c.requires.4, m.auto.row, length-take-le row_length c.args.part.now (omega (arith, c.requires.4))))

pub returns : goal.returns
unfolding part_length row_length spans_length group_limit
returns c = let m = c.match_one-outcome in
    let row : List ℕ = m.new.row in
    let size : length row ≡ row_length = m.auto.row ∙ length-take-le row_length c.args.part.now (omega (arith, c.requires.4)) in record {
      tells = λ x st. part-whole c.args.part.now row _ 4 c.requires.4 size refl ∙ ap {B = List ℕ} (λ (l : List ℕ). row ++ l) c.tell.ensures ∙ part-told x (between c.args.buffer.now c.args.from c.args.to) c.args.budget c.args.part.now (outcome_of m.result) row (m.ensures.answers x st);
      work_unchanged = m.ensures.work_unchanged;
      keeps = m.ensures.keeps;
    }
