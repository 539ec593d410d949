-- `tell_why` meets its contract: the walks of a line that isn't matched are plain, its registers are clear, and what is lent on is what the budget
-- needs of the work area and what there is room for of the marks.
use mathlib.Core.Path.{◌∙◌, sym, ap}
use native.Mathlib.Omega.{arith}
use lib.Seq.{length-take-le, drop_at}
use Rattle.syntax.specs.Limits.{subject_limit, budget_limit, rule_area_need, unset, registers, work_per_step}
use Rattle.semantics.specs.Answers.{Answer}
use Rattle.semantics.specs.Calls.{work_area_need}
use Rattle.machine.specs.Theorem.{clear-all}
use Rattle.failures.specs.Laws.Walks.{not_matched-fruitless}
use Rattle.failures.specs.Laws.Marks.{marks_written}
use Rattle.explaining.proofs.tell_why.Goals as goal

pub slice_bounds-find_failures-end-2 : goal.slice_bounds-find_failures-end-2
unfolding work_area_need work_per_step
slice_bounds-find_failures-end-2 c = c.requires.held.work_fits

pub slice_bounds-find_failures-end-3 : goal.slice_bounds-find_failures-end-3
unfolding work_area_need work_per_step
slice_bounds-find_failures-end-3 c = sym (length-take-le (work_area_need c.args.budget) c.args.work.now c.requires.held.work_fits)

pub slice_bounds-find_failures-end-5 : goal.slice_bounds-find_failures-end-5
slice_bounds-find_failures-end-5 c = sym (length-take-le c.min-many.result c.args.marks.now (omega (arith, c.min-many.ensures)))

pub find_failures-best-requires : goal.find_failures-best-requires
unfolding unset registers work_area_need work_per_step subject_limit rule_area_need budget_limit
find_failures-best-requires c = let h = c.requires.held in
    let long = length-take-le (work_area_need c.args.budget) c.args.work.now h.work_fits in
    record {
      sized = (record { code_small = omega (arith, h.code_size); sub_small = omega (arith, h.subject_fits); work_fits = omega (arith, long); budget_small = omega (arith, h.budget_fits) }, clear-all);
      stands = (h.tree, h.stands);
      fruitless = λ x st. not_matched-fruitless c.args.subject.now x c.args.budget (ap (λ (a : Answer). a.outcome) (c.requires.unmatched x st));
    }

pub returns : goal.returns
unfolding work_area_need work_per_step
returns c = let k = c.min-many in
    let m = c.find_failures-best in record {
      explains = λ x st.
          (let f = m.ensures x st in
          (c.requires.unmatched x st, f.0.far, f.0.near, marks_written c.args.subject.now x _ _ k.result _ c.args.marks.now _ f.0.near k.ensures (omega (arith, k.ensures)) f.1));
      work_unchanged = drop_at m.new.work _ (work_area_need c.args.budget) (m.auto.work ∙ length-take-le (work_area_need c.args.budget) c.args.work.now c.requires.held.work_fits);
    }
