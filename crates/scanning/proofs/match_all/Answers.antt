-- `match_all` meets its contract: a call is refused as it is prepared, or its inside finds the rule that stands, and its areas are cleared.
use mathlib.Core.Path.{refl, sym}
use native.Mathlib.Omega.{arith}
use Rattle.std.proofs.lemmas.Result.{err_from_is_err_and}
use Rattle.syntax.specs.Limits.{rule_area_need, work_per_step, row_length}
use Rattle.semantics.specs.Calls.{work_area_need, list_refused, scan_rule, scan_call}
use Rattle.frame.specs.Inputs.{call_of}
use Rattle.frame.specs.Laws.Preparing.{is-ready, is-denied, rule_area-long, work_area-long, readied-held, denied-returns, readied-returns}
use Rattle.gathering.specs.Listing.{listing_of}
use Rattle.scanning.specs.Laws.Scans.{scan-clears, scans-told}
use Rattle.scanning.proofs.match_all.Goals as goal

pub slice_bounds-scan_held-end : goal.slice_bounds-scan_held-end
unfolding rule_area_need row_length
slice_bounds-scan_held-end c = let a = c.args in
    let p = c.prepare.ensures row_length a.subject.now a.results.now refl refl in
    rule_area-long (is-ready p _ c.in_ok-compiled.was)

pub slice_bounds-scan_held-end-2 : goal.slice_bounds-scan_held-end-2
unfolding rule_area_need row_length
slice_bounds-scan_held-end-2 c = let a = c.args in
    let p = c.prepare.ensures row_length a.subject.now a.results.now refl refl in
    sym (readied-held (is-ready p _ c.in_ok-compiled.was)).code_size

pub scan_held-told-requires : goal.scan_held-told-requires
unfolding rule_area_need row_length
scan_held-told-requires c = let a = c.args in
    let p = is-ready (c.prepare.ensures row_length a.subject.now a.results.now refl refl) _ c.in_ok-compiled.was in
    readied-held p

pub finish-requires : goal.finish-requires
unfolding row_length work_area_need work_per_step
finish-requires c = let a = c.args in
    let p = is-ready (c.prepare.ensures row_length a.subject.now a.results.now refl refl) _ c.in_ok-compiled.was in
    (rule_area-long p, omega (arith, work_area-long p, c.scan_held-told.auto.work))

pub returns-in_err-compiled : goal.returns-in_err-compiled
unfolding row_length scan_call listing_of
returns-in_err-compiled c = let a = c.args in
    let p = c.prepare.ensures row_length a.subject.now a.results.now refl refl in
    let q = err_from_is_err_and c.from_residual.result c.from_residual.ensures.1 in
    rw (q.1, q.2) (denied-returns list_refused row_length scan_rule (is-denied p _ c.in_err-compiled.was))

pub returns : goal.returns
unfolding rule_area_need row_length scan_call
returns c = let a = c.args in
    let d = call_of a.rule.now a.flags a.subject.now a.budget a.rule_area.now a.work_area.now a.results.now a.names.now in
    let p = is-ready (c.prepare.ensures row_length a.subject.now a.results.now refl refl) _ c.in_ok-compiled.was in
    readied-returns list_refused row_length scan_rule (scan-clears d) p _ c.scan_held-told.ensures.work_unchanged (scans-told d p.tree _ _ (c.scan_held-told.ensures.scans p.tree p.stands)) c.finish.ensures.rule_area_after c.finish.ensures.work_area_after
