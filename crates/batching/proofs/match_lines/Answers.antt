-- `match_lines` meets its contract: the lines are counted, the call is refused as it is prepared, or its inside fills the parts of the lines by the rule
-- that stands, and its areas are cleared. Of the subject, which is no line, nothing counts.
use mathlib.Core.Path.{◌≡◌, refl, ap, sym, ◌∙◌}
use mathlib.Core.List.{List, []}
use Prim.Native.Nat.{ℕ, ◌/◌}
use native.Mathlib.Omega.{arith}
use lib.ListN.{length}
use lib.Dec.{ltb}
use Rattle.std.proofs.lemmas.Result.{err_from_is_err_and}
use Rattle.syntax.specs.Limits.{group_limit, spans_length, row_length, part_length, rule_area_need, work_per_step}
use Rattle.syntax.specs.Laws.Formation.{well-formed}
use Rattle.semantics.specs.Calls.{work_area_need}
use Rattle.semantics.specs.Batches.{lines_of, batch_refused, lineless, parts_need, batch_rule, batch_call}
use Rattle.frame.specs.Inputs.{call_of}
use Rattle.frame.specs.Laws.Preparing.{is-ready, is-denied, rule_area-long, work_area-long, results-long, readied-held, denied-returns, readied-returns}
use Rattle.batching.specs.Batches.{batch_of}
use Rattle.batching.specs.Laws.Batches.{short-of-parts, batch-clears, batch-told}
use Rattle.batching.proofs.match_lines.Goals as goal

-- what is told to `prepare` of the results
short_is : (buffer area : List ℕ) (many : ℕ) → many ≡ length (lines_of buffer) → ltb (length area) (parts_need (lines_of buffer)) ≡ ltb (length area / part_length) many
short_is buffer area many e = short-of-parts (lines_of buffer) area ∙ ap (ltb (length area / part_length)) (sym e)

pub slice_bounds-match_lines_held-end : goal.slice_bounds-match_lines_held-end
unfolding part_length row_length spans_length group_limit rule_area_need
slice_bounds-match_lines_held-end c = let a = c.args in
    let b = c.args.buffer.now in
    let p = c.prepare.ensures (parts_need (lines_of b)) [] a.results.now refl (short_is b a.results.now c.count_lines-lines.result c.count_lines-lines.ensures) in
    rule_area-long (is-ready p _ c.in_ok-compiled.was)

pub slice_bounds-match_lines_held-end-2 : goal.slice_bounds-match_lines_held-end-2
unfolding part_length row_length spans_length group_limit rule_area_need
slice_bounds-match_lines_held-end-2 c = let a = c.args in
    let b = c.args.buffer.now in
    let p = c.prepare.ensures (parts_need (lines_of b)) [] a.results.now refl (short_is b a.results.now c.count_lines-lines.result c.count_lines-lines.ensures) in
    sym (readied-held (is-ready p _ c.in_ok-compiled.was)).code_size

pub match_lines_held-requires : goal.match_lines_held-requires
unfolding part_length row_length spans_length group_limit rule_area_need
match_lines_held-requires c = let a = c.args in
    let b = c.args.buffer.now in
    let p = c.prepare.ensures (parts_need (lines_of b)) [] a.results.now refl (short_is b a.results.now c.count_lines-lines.result c.count_lines-lines.ensures) in
    let q = is-ready p _ c.in_ok-compiled.was in
    let w = rw q.reads at (well-formed a.rule.now a.flags) in
    record {
      held = (readied-held q, results-long q, w.few);
      stands = (q.tree, q.stands, w.proper);
    }

pub finish-requires : goal.finish-requires
unfolding part_length row_length spans_length group_limit work_area_need work_per_step
finish-requires c = let a = c.args in
    let b = c.args.buffer.now in
    let p = c.prepare.ensures (parts_need (lines_of b)) [] a.results.now refl (short_is b a.results.now c.count_lines-lines.result c.count_lines-lines.ensures) in
    let q = is-ready p _ c.in_ok-compiled.was in
    (rule_area-long q, omega (arith, work_area-long q, c.match_lines_held.auto.work))

pub returns-in_err-compiled : goal.returns-in_err-compiled
unfolding part_length row_length spans_length group_limit batch_call batch_of
returns-in_err-compiled c = let a = c.args in
    let b = c.args.buffer.now in
    let p = c.prepare.ensures (parts_need (lines_of b)) [] a.results.now refl (short_is b a.results.now c.count_lines-lines.result c.count_lines-lines.ensures) in
    let q = err_from_is_err_and c.from_residual.result c.from_residual.ensures.1 in
    rw (q.1, q.2) (denied-returns batch_refused (parts_need (lines_of b)) (batch_rule (lines_of b)) (is-denied p _ c.in_err-compiled.was))

pub returns : goal.returns
unfolding part_length row_length spans_length group_limit rule_area_need batch_call batch_of
returns c = let a = c.args in
    let b = c.args.buffer.now in
    let p = c.prepare.ensures (parts_need (lines_of b)) [] a.results.now refl (short_is b a.results.now c.count_lines-lines.result c.count_lines-lines.ensures) in
    let d = call_of a.rule.now a.flags b a.budget a.rule_area.now a.work_area.now a.results.now a.names.now in
    let q = is-ready p _ c.in_ok-compiled.was in
    let h = c.match_lines_held in
    readied-returns batch_refused (parts_need (lines_of b)) (batch_rule (lines_of b)) (batch-clears (lines_of b) (lineless d)) q _ h.ensures.work_unchanged (batch-told (lines_of b) d q c.count_lines-lines.result c.count_lines-lines.ensures _ (h.ensures.fills q.tree q.stands)) c.finish.ensures.rule_area_after c.finish.ensures.work_area_after
