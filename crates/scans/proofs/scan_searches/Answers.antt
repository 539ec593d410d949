-- `scan_searches` meets its contract. The loop keeps, for each rule that stands, the rows that were found and that the searches from the next one on make
-- the rest; the registers are clear before each search. The measure is the tries that are left.
use mathlib.Core.Path.{refl, sym, ◌∙◌}
use Prim.Native.Nat.{◌+◌, ◌<◌}
use native.Mathlib.Omega.{arith}
use Rattle.syntax.specs.Limits.{row_length, rule_area_need}
use Rattle.semantics.specs.Calls.{room, work_area_need}
use Rattle.machine.specs.Laws.Code.{spans-in-registers}
use Rattle.noting.specs.Laws.Holding.{rows_fit}
use Rattle.scans.proofs.Rows.{scanning-start, not_found, ends-few, scanning-end, scanning-fewer, row-few, scanning-row}
use borrow.Enum.Refused.{opened}
use Rattle.scans.proofs.scan_searches.Goals as goal

pub find_opening-open-requires : goal.find_opening-open-requires
unfolding rule_area_need
find_opening-open-requires c = omega (arith, c.requires.0.code_size)

pub loop-start-init : goal.loop-start-init
loop-start-init c = let a = c.args in (c.requires.1, refl, refl, λ x st. scanning-start a.subject.now x a.budget a.results.now)

pub search-found-requires : goal.search-found-requires
unfolding work_area_need
search-found-requires c = let h = c.requires.0 in
    let l = c.loop-start in
    record {
      held = (record { tree = h.tree; stands = h.stands; code_size = h.code_size; subject_fits = h.subject_fits; work_fits = omega (arith, h.work_fits, l.invariant.1); budget_fits = h.budget_fits }, l.invariant.0, c.find_opening-open.ensures);
      from_in_bounds = (l.invariant.3 h.tree h.stands).at.inside;
    }

pub end_scan-requires : goal.end_scan-requires
end_scan-requires c = let h = c.requires.0 in
    let l = c.loop-start in
    let u = c.search-found in
    ends-few (l.invariant.3 h.tree h.stands) _ _ (u.ensures h.tree h.stands) (not_found l.results l.rows u.result (opened c.in_default.in_default-own.keys2)) h.subject_fits (omega (arith, c.well_formed))

pub shape_of-regs-in_default : goal.shape_of-regs-in_default
shape_of-regs-in_default c = c.search-found.auto.regs ∙ c.loop-start.invariant.0.size ∙ sym c.requires.1.size

pub shape_of-work-in_default : goal.shape_of-work-in_default
shape_of-work-in_default c = c.search-found.auto.work ∙ c.loop-start.invariant.1

pub shape_of-results-in_default : goal.shape_of-results-in_default
shape_of-results-in_default c = c.loop-start.invariant.2

pub returns-in_default : goal.returns-in_default
returns-in_default c = let l = c.loop-start in
    let u = c.search-found in
    λ x st. scanning-end (l.invariant.3 x st) _ _ (u.ensures x st) (not_found l.results l.rows u.result (opened c.in_default.in_default-own.keys2)) c.end_scan.ensures

pub end_scan-requires-then-results-rows : goal.end_scan-requires-then-results-rows
unfolding room row_length
end_scan-requires-then-results-rows c = let h = c.requires.0 in
    ends-few (c.loop-start.invariant.3 h.tree h.stands) _ _ (rw c.in-Found.is at (c.search-found.ensures h.tree h.stands)) c.if-results-rows.true h.subject_fits (omega arith)

pub shape_of-regs-then-results-rows : goal.shape_of-regs-then-results-rows
shape_of-regs-then-results-rows c = c.search-found.auto.regs ∙ c.loop-start.invariant.0.size ∙ sym c.requires.1.size

pub shape_of-work-then-results-rows : goal.shape_of-work-then-results-rows
shape_of-work-then-results-rows c = c.search-found.auto.work ∙ c.loop-start.invariant.1

pub shape_of-results-then-results-rows : goal.shape_of-results-then-results-rows
shape_of-results-then-results-rows c = c.loop-start.invariant.2

pub returns-then-results-rows : goal.returns-then-results-rows
unfolding room row_length
returns-then-results-rows c = λ x st. scanning-end (c.loop-start.invariant.3 x st) _ _ (rw c.in-Found.is at (c.search-found.ensures x st)) c.if-results-rows.true c.end_scan-then-results-rows.ensures

pub overflow_mul-rows : goal.overflow_mul-rows
unfolding room row_length
overflow_mul-rows c = let l = c.loop-start in
    let free : l.rows < room l.results = c.if-results-rows.false in
    omega (arith, rows_fit l.results l.rows (omega arith), l.invariant.2, c.well_formed)

pub write_row-requires : goal.write_row-requires
unfolding room row_length
write_row-requires c = let l = c.loop-start in
    let free : l.rows < room l.results = c.if-results-rows.false in
    (omega (arith, rows_fit l.results (l.rows + 1) (omega arith)), omega (arith, c.search-found.auto.regs, l.invariant.0.size, spans-in-registers))

pub reset-requires : goal.reset-requires
reset-requires c = c.search-found.auto.regs ∙ c.loop-start.invariant.0.size

pub overflow_add-rows : goal.overflow_add-rows
unfolding room row_length
overflow_add-rows c = let l = c.loop-start in
    let free : l.rows < room l.results = c.if-results-rows.false in
    omega (arith, rows_fit l.results l.rows (omega arith), l.invariant.2, c.well_formed)

pub overflow_add-steps : goal.overflow_add-steps
unfolding room row_length
overflow_add-steps c = let h = c.requires.0 in
    let m = row-few (c.loop-start.invariant.3 h.tree h.stands) (rw c.in-Found.is at (c.search-found.ensures h.tree h.stands)) c.if-results-rows.false h.subject_fits (omega arith) in
    omega arith

pub loop-start-smaller : goal.loop-start-smaller
loop-start-smaller c = let h = c.requires.0 in
    scanning-fewer (c.loop-start.invariant.3 h.tree h.stands) (rw c.in-Found.is at (c.search-found.ensures h.tree h.stands))

pub loop-start-preserved : goal.loop-start-preserved
unfolding room row_length
loop-start-preserved c = let l = c.loop-start in
    let u = c.search-found in
    (c.reset.ensures, u.auto.work ∙ l.invariant.1, c.write_row.auto.results ∙ l.invariant.2, λ x st. scanning-row (l.invariant.3 x st) (rw c.in-Found.is at (u.ensures x st)) c.if-results-rows.false c.write_row.ensures (omega (arith, u.auto.regs, l.invariant.0.size, spans-in-registers)))
