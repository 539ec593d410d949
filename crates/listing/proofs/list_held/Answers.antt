-- `list_held` meets its contract: its registers are clear, and what is lent on of the work area is what the budget needs.
use mathlib.Core.Path.{◌∙◌, sym}
use native.Mathlib.Omega.{arith}
use lib.Seq.{length-take-le, drop_at}
use Rattle.syntax.specs.Limits.{unset, registers, rule_area_need, work_per_step}
use Rattle.semantics.specs.Calls.{work_area_need}
use Rattle.machine.specs.Theorem.{clear-all}
use Rattle.listing.proofs.list_held.Goals as goal

pub slice_bounds-list_starts-end-2 : goal.slice_bounds-list_starts-end-2
unfolding work_area_need work_per_step
slice_bounds-list_starts-end-2 c = c.requires.work_fits

pub slice_bounds-list_starts-end-3 : goal.slice_bounds-list_starts-end-3
unfolding work_area_need work_per_step
slice_bounds-list_starts-end-3 c = sym (length-take-le (work_area_need c.args.budget) c.args.work.now c.requires.work_fits)

pub list_starts-requires : goal.list_starts-requires
unfolding unset registers rule_area_need work_area_need work_per_step
list_starts-requires c = let h = c.requires in
    let long = length-take-le (work_area_need c.args.budget) c.args.work.now h.work_fits in
    record {
      clear = (clear-all, h.subject_fits, omega (arith, h.code_size), omega (arith, long), omega (arith, c.spans_of-spans.ensures), h.budget_fits);
      stands = (h.tree, h.stands);
    }

pub returns : goal.returns
unfolding work_area_need work_per_step
returns c = let m = c.list_starts in
    record {
      lists = m.ensures;
      work_unchanged = drop_at m.new.work _ (work_area_need c.args.budget) (m.auto.work ∙ length-take-le (work_area_need c.args.budget) c.args.work.now c.requires.work_fits);
    }
