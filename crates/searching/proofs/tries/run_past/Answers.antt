-- The loop keeps, for each rule that stands, that what is left of its walk answers the search. An end that is barred is fallen back from; where an
-- allowed end is reached, nothing is left or no step is left, the try is told. The measure is the steps that are left.
use mathlib.Core.Path.{refl, sym, ◌∙◌}
use mathlib.Core.Bool.{true}
use native.Mathlib.Omega.{arith}
use lib.ListN.{length}
use Rattle.syntax.specs.Limits.{subject_limit, rule_area_need}
use Rattle.semantics.specs.Calls.{work_area_need}
use Rattle.machine.specs.Theorem.{enough-room}
use Rattle.searching.proofs.Trying.{trying_start, trying-spent, trying-few, trying-nothing, trying-end, trying-found, trying-on, trying-wide}
use Rattle.searching.proofs.tries.run_past.Goals as goal

pub loop-used-init : goal.loop-used-init
unfolding work_area_need
loop-used-init c = let h = c.requires.0 in
    let a = c.args in
    (c.requires.1.size, refl, λ x st. trying_start a.budget a.from true (length a.work.now) a.regs.now st (λ i. omega (arith, c.type_inv.subject i)) c.requires.1 c.requires.2 (enough-room a.budget (length a.work.now) h.work_fits) h.budget_fits (c.start-head.ensures a.regs.now a.work.now))

pub run_to_end-requires : goal.run_to_end-requires
unfolding subject_limit rule_area_need
run_to_end-requires c = let l = c.loop-used in
    let h = c.requires.0 in
    let g = l.invariant.2 h.tree h.stands in
    record {
      regs_len = (l.invariant.0, omega (arith, h.subject_fits), omega (arith, h.code_size));
      by_index = (_, g.rest, g.ready);
    }

pub overflow_sub-unused : goal.overflow_sub-unused
overflow_sub-unused c = let h = c.requires.0 in
    (trying-end (c.loop-used.invariant.2 h.tree h.stands) c.run_to_end.ensures _ _ c.in-End.is).enough

pub overflow_sub-result : goal.overflow_sub-result
overflow_sub-result c = let h = c.requires.0 in
    omega (arith, (c.loop-used.invariant.2 h.tree h.stands).few)

pub shape_of-regs-then-e-from : goal.shape_of-regs-then-e-from
shape_of-regs-then-e-from c = c.run_to_end.auto.regs ∙ c.loop-used.invariant.0 ∙ sym c.requires.1.size

pub shape_of-work-then-e-from : goal.shape_of-work-then-e-from
shape_of-work-then-e-from c = c.run_to_end.auto.work ∙ c.loop-used.invariant.1

pub returns-then-e-from : goal.returns-then-e-from
returns-then-e-from c = λ x st. trying-found (c.loop-used.invariant.2 x st) c.run_to_end.ensures c.in-End.is (λ h. c.if-e-from.true h.1)

pub fall_back-next-requires : goal.fall_back-next-requires
fall_back-next-requires c = let h = c.requires.0 in
    let l = c.loop-used in
    let r = c.run_to_end in
    let m = trying-end (l.invariant.2 h.tree h.stands) r.ensures _ _ c.in-End.is in
    record {
      regs_len = (r.auto.regs ∙ l.invariant.0, omega (arith, m.low, r.auto.work));
      stack_fits = m.fits;
    }

pub loop-used-smaller : goal.loop-used-smaller
loop-used-smaller c = let h = c.requires.0 in
    let m = trying-end (c.loop-used.invariant.2 h.tree h.stands) c.run_to_end.ensures _ _ c.in-End.is in
    omega (arith, m.some, m.enough)

pub loop-used-preserved : goal.loop-used-preserved
loop-used-preserved c = let l = c.loop-used in
    let r = c.run_to_end in
    let f = c.fall_back-next in
    (f.auto.regs ∙ r.auto.regs ∙ l.invariant.0, f.auto.work ∙ r.auto.work ∙ l.invariant.1, λ x st. trying-wide (f.auto.work ∙ r.auto.work) (trying-on (l.invariant.2 x st) r.ensures c.in-End.is refl (omega (arith, c.if-e-from.false)) f.ensures))

pub overflow_sub-rest : goal.overflow_sub-rest
overflow_sub-rest c = let h = c.requires.0 in
    trying-few (c.loop-used.invariant.2 h.tree h.stands) c.run_to_end.ensures _ c.in-Nothing.is

pub overflow_sub-result-in-Nothing : goal.overflow_sub-result-in-Nothing
overflow_sub-result-in-Nothing c = let h = c.requires.0 in
    omega (arith, (c.loop-used.invariant.2 h.tree h.stands).few)

pub shape_of-regs-in-Nothing : goal.shape_of-regs-in-Nothing
shape_of-regs-in-Nothing c = c.run_to_end.auto.regs ∙ c.loop-used.invariant.0 ∙ sym c.requires.1.size

pub shape_of-work-in-Nothing : goal.shape_of-work-in-Nothing
shape_of-work-in-Nothing c = c.run_to_end.auto.work ∙ c.loop-used.invariant.1

pub returns-in-Nothing : goal.returns-in-Nothing
returns-in-Nothing c = λ x st. trying-nothing (c.loop-used.invariant.2 x st) c.run_to_end.ensures _ c.in-Nothing.is

pub shape_of-regs-in-Spent : goal.shape_of-regs-in-Spent
shape_of-regs-in-Spent c = c.run_to_end.auto.regs ∙ c.loop-used.invariant.0 ∙ sym c.requires.1.size

pub shape_of-work-in-Spent : goal.shape_of-work-in-Spent
shape_of-work-in-Spent c = c.run_to_end.auto.work ∙ c.loop-used.invariant.1

pub returns-in-Spent : goal.returns-in-Spent
returns-in-Spent c = λ x st. trying-spent (c.loop-used.invariant.2 x st) c.run_to_end.ensures c.in-Spent.is
