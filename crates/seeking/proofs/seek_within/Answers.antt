-- `seek_within` meets its contract. The loop's invariant: what is left of the starts makes the answer that all of them make, and the registers are as they were. A
-- start that found nothing leads to the next one that may begin. The measure is the starts that are left.
use mathlib.Core.Path.{◌∙◌, ap}
use mathlib.Core.List.{List}
use Prim.Native.Nat.{ℕ}
use native.Mathlib.Omega.{arith}
use lib.ListN.{length}
use Rattle.syntax.specs.Limits.{subject_limit, rule_area_need}
use Rattle.seeking.proofs.Seeking.{seeking-start, seeking-none, seeking-ready, seeking-end, seeking-spent, seeking-on}
use Rattle.seeking.proofs.seek_within.Goals as goal

pub loop-begin-init : goal.loop-begin-init
loop-begin-init c = let a = c.args in
    let p = c.requires in
    seeking-start a.code.now a.subject.now a.regs.now a.work.now a.entry a.budget _ a.first a.before (record { held = p.held.0; clear = p.held.1; opens = p.held.2; bytes = λ i. omega (arith, c.type_inv.subject i); budget_small = omega arith; cost_small = omega arith }) p.near.0

pub try_start-requires : goal.try_start-requires
unfolding subject_limit rule_area_need
try_start-requires c = let g = c.loop-begin.invariant in
    let h = c.loop-begin.invariant.lent.held in
    record {
      regs_len = (omega (arith, ap (λ (r : List ℕ). length r) g.same, g.lent.clear.size), omega (arith, h.subject_fits), omega (arith, h.code_size), c.requires.near.1);
      by_index = (_, _, seeking-ready g c.loop-begin-test.true h.tree h.stands);
    }

pub overflow_add-result : goal.overflow_add-result
unfolding subject_limit
overflow_add-result c = let g = c.loop-begin.invariant in omega (arith, g.near.small, c.loop-begin-test.true, g.lent.held.subject_fits)

pub shape_of-regs-in-End : goal.shape_of-regs-in-End
shape_of-regs-in-End c = c.try_start.auto.regs ∙ ap (λ (r : List ℕ). length r) c.loop-begin.invariant.same

pub shape_of-work-in-End : goal.shape_of-work-in-End
shape_of-work-in-End c = c.try_start.auto.work ∙ c.loop-begin.invariant.wide

pub returns-in-End : goal.returns-in-End
returns-in-End c = record {
  answers = seeking-end c.loop-begin.invariant c.loop-begin-test.true c.try_start.ensures _ _ c.in-End.is;
  leaves = tt;
}

pub overflow_add-begin : goal.overflow_add-begin
unfolding subject_limit
overflow_add-begin c = omega (arith, c.loop-begin-test.true, c.loop-begin.invariant.lent.held.subject_fits)

pub overflow_add-steps : goal.overflow_add-steps
unfolding subject_limit
overflow_add-steps c = let g = c.loop-begin.invariant in omega (arith, g.near.small, c.loop-begin-test.true, g.lent.held.subject_fits)

pub next_start-on-requires : goal.next_start-on-requires
unfolding subject_limit
next_start-on-requires c = let g = c.loop-begin.invariant in
    let fits = c.loop-begin.invariant.lent.held.subject_fits in
    (omega (arith, c.loop-begin-test.true), fits, omega (arith, g.near.small, c.loop-begin-test.true, fits))

pub loop-begin-smaller : goal.loop-begin-smaller
loop-begin-smaller c = omega (arith, c.next_start-on.ensures.passed.on, c.loop-begin-test.true)

pub loop-begin-preserved : goal.loop-begin-preserved
loop-begin-preserved c = let u = c.try_start in
    rw c.next_start-on.ensures.steps_value (seeking-on c.loop-begin.invariant c.loop-begin-test.true u.ensures _ c.in-Nothing.is u.auto.work _ c.next_start-on.ensures.passed)

pub overflow_add-result-in-Spent : goal.overflow_add-result-in-Spent
unfolding subject_limit
overflow_add-result-in-Spent c = let g = c.loop-begin.invariant in omega (arith, g.near.small, c.loop-begin-test.true, g.lent.held.subject_fits)

pub shape_of-regs-in-Spent : goal.shape_of-regs-in-Spent
shape_of-regs-in-Spent c = c.try_start.auto.regs ∙ ap (λ (r : List ℕ). length r) c.loop-begin.invariant.same

pub shape_of-work-in-Spent : goal.shape_of-work-in-Spent
shape_of-work-in-Spent c = c.try_start.auto.work ∙ c.loop-begin.invariant.wide

pub returns-in-Spent : goal.returns-in-Spent
returns-in-Spent c = record {
  answers = seeking-spent c.loop-begin.invariant c.loop-begin-test.true c.try_start.ensures c.in-Spent.is;
  leaves = tt;
}

pub shape_of-regs : goal.shape_of-regs
shape_of-regs c = ap (λ (r : List ℕ). length r) c.loop-begin.invariant.same

pub shape_of-work : goal.shape_of-work
shape_of-work c = c.loop-begin.invariant.wide

pub returns : goal.returns
returns c = record {
  answers = seeking-none c.loop-begin.invariant (omega (arith, c.loop-begin-test.false));
  leaves = c.loop-begin.invariant.same;
}
