-- `scan_held` meets its contract: its registers are clear, and what is lent on of the work area is what the budget needs.
use mathlib.Core.Path.{◌∙◌, sym}
use native.Mathlib.Omega.{arith}
use lib.Seq.{length-take-le, drop_at}
use Rattle.syntax.specs.Limits.{unset, registers, work_per_step}
use Rattle.semantics.specs.Calls.{work_area_need}
use Rattle.machine.specs.Theorem.{clear-all}
use Rattle.scanning.proofs.scan_held.Goals as goal

pub slice_bounds-scan_searches-end-2 : goal.slice_bounds-scan_searches-end-2
unfolding work_area_need work_per_step
slice_bounds-scan_searches-end-2 c = c.requires.work_fits

pub slice_bounds-scan_searches-end-3 : goal.slice_bounds-scan_searches-end-3
unfolding work_area_need work_per_step
slice_bounds-scan_searches-end-3 c = sym (length-take-le (work_area_need c.args.budget) c.args.work.now c.requires.work_fits)

pub scan_searches-requires : goal.scan_searches-requires
unfolding unset registers work_area_need work_per_step
scan_searches-requires c = let h = c.requires in
    let long = length-take-le (work_area_need c.args.budget) c.args.work.now h.work_fits in
    (record { tree = h.tree; stands = h.stands; code_size = h.code_size; subject_fits = h.subject_fits; work_fits = omega (arith, long); budget_fits = h.budget_fits }, clear-all)

pub returns : goal.returns
unfolding work_area_need work_per_step
returns c = let m = c.scan_searches in
    record {
      scans = m.ensures;
      work_unchanged = drop_at m.new.work _ (work_area_need c.args.budget) (m.auto.work ∙ length-take-le (work_area_need c.args.budget) c.args.work.now c.requires.work_fits);
    }
