-- `match_opened` meets its contract: once the rule's groups are unset its registers are clear, and what is lent on of the work area is what the budget needs.
use mathlib.Core.Path.{◌∙◌, sym}
use native.Mathlib.Omega.{arith}
use lib.Seq.{length-take-le, drop_at}
use Rattle.syntax.specs.Limits.{spans_length, registers, work_per_step}
use Rattle.semantics.specs.Calls.{work_area_need}
use Rattle.finding.specs.Laws.Registers.{unset-clear}
use Rattle.finding.proofs.match_opened.Goals as goal

pub unset_groups-requires : goal.unset_groups-requires
unfolding registers spans_length
unset_groups-requires c = omega (arith, c.requires.held.2, c.requires.held.3.size)

pub slice_bounds-search-end : goal.slice_bounds-search-end
unfolding work_area_need work_per_step
slice_bounds-search-end c = c.requires.held.0.work_fits

pub slice_bounds-search-end-2 : goal.slice_bounds-search-end-2
unfolding work_area_need work_per_step
slice_bounds-search-end-2 c = sym (length-take-le (work_area_need c.args.budget) c.args.work.now c.requires.held.0.work_fits)

pub search-requires : goal.search-requires
unfolding spans_length work_area_need work_per_step
search-requires c = let h = c.requires.held.0 in
    let long = length-take-le (work_area_need c.args.budget) c.args.work.now h.work_fits in
    record {
      from_le_to = c.requires.from_le_to;
      held = (record { tree = h.tree; stands = h.stands; code_size = h.code_size; subject_fits = h.subject_fits; work_fits = omega (arith, long); budget_fits = h.budget_fits }, unset-clear c.args.groups c.args.regs.now c.unset_groups.ensures (omega (arith, c.requires.held.2)) c.requires.held.3, c.requires.held.1);
    }

pub returns : goal.returns
unfolding work_area_need work_per_step
returns c = let m = c.search in
    record {
      finds = m.ensures.finds;
      work_unchanged = drop_at m.new.work _ (work_area_need c.args.budget) (m.auto.work ∙ length-take-le (work_area_need c.args.budget) c.args.work.now c.requires.held.0.work_fits);
      keeps = m.ensures.keeps;
    }
