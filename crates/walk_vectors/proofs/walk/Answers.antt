-- The loop keeps the machine ready for the steps that are left; an end takes one at least, and falling back makes it ready again.
use mathlib.Core.Path.{refl, ◌∙◌}
use native.Mathlib.Omega.{arith}
use Rattle.walk_vectors.proofs.Turns.{ended, stopped}
use Rattle.walk_vectors.proofs.walk.Goals as goal

pub loop-used-init : goal.loop-used-init
loop-used-init c = (record { size = c.requires.regs_len.0; first = c.requires.by_index.0; t = c.requires.by_index.1; ready = c.requires.by_index.2 }, omega arith, refl, refl)

pub run_to_end-stop-requires : goal.run_to_end-stop-requires
run_to_end-stop-requires c = record {
  regs_len = (c.loop-used.invariant.0.size, c.requires.regs_len.2, c.requires.regs_len.3);
  by_index = (c.loop-used.invariant.0.first, c.loop-used.invariant.0.t, c.loop-used.invariant.0.ready);
}

pub overflow_sub-left : goal.overflow_sub-left
overflow_sub-left c = (ended _ _ _ _ _ _ c.loop-used.invariant.0 _ _ _ c.run_to_end-stop.ensures _ _ c.in-End.is).few

pub overflow_sub-budget : goal.overflow_sub-budget
overflow_sub-budget c = omega (arith, c.loop-used.invariant.1)

pub put_end-requires : goal.put_end-requires
put_end-requires c = omega (arith, c.requires.regs_len.1, c.loop-used.invariant.2, c.run_to_end-stop.auto.regs)

pub fall_back-head-requires : goal.fall_back-head-requires
fall_back-head-requires c = let e = ended _ _ _ _ _ _ c.loop-used.invariant.0 _ _ _ c.run_to_end-stop.ensures _ _ c.in-End.is in record {
  regs_len = (c.run_to_end-stop.auto.regs ∙ c.loop-used.invariant.0.size, omega (arith, e.low, c.run_to_end-stop.auto.work));
  stack_fits = e.fits;
}

pub loop-used-smaller : goal.loop-used-smaller
loop-used-smaller c = let e = ended _ _ _ _ _ _ c.loop-used.invariant.0 _ _ _ c.run_to_end-stop.ensures _ _ c.in-End.is in omega (arith, e.some, e.few)

pub loop-used-preserved : goal.loop-used-preserved
loop-used-preserved c = let e = ended _ _ _ _ _ _ c.loop-used.invariant.0 _ _ _ c.run_to_end-stop.ensures _ _ c.in-End.is in
    (e.next _ _ _ c.fall_back-head.ensures (c.fall_back-head.auto.regs ∙ c.run_to_end-stop.auto.regs ∙ c.loop-used.invariant.0.size) (c.fall_back-head.auto.work ∙ c.run_to_end-stop.auto.work), omega (arith, c.loop-used.invariant.1), c.fall_back-head.auto.regs ∙ c.run_to_end-stop.auto.regs ∙ c.loop-used.invariant.2, c.fall_back-head.auto.work ∙ c.run_to_end-stop.auto.work ∙ c.loop-used.invariant.3)

pub overflow_sub-budget-in-Nothing : goal.overflow_sub-budget-in-Nothing
overflow_sub-budget-in-Nothing c = omega (arith, c.loop-used.invariant.1)

pub overflow_add-budget : goal.overflow_add-budget
overflow_add-budget c = omega (arith, c.loop-used.invariant.1, stopped _ _ _ _ _ _ c.loop-used.invariant.0 _ _ _ c.run_to_end-stop.ensures _ c.in-Nothing.is)

pub shape_of-regs-in-Nothing : goal.shape_of-regs-in-Nothing
shape_of-regs-in-Nothing c = c.run_to_end-stop.auto.regs ∙ c.loop-used.invariant.2

pub shape_of-work-in-Nothing : goal.shape_of-work-in-Nothing
shape_of-work-in-Nothing c = c.run_to_end-stop.auto.work ∙ c.loop-used.invariant.3

pub shape_of-regs-in-Spent : goal.shape_of-regs-in-Spent
shape_of-regs-in-Spent c = c.run_to_end-stop.auto.regs ∙ c.loop-used.invariant.2

pub shape_of-work-in-Spent : goal.shape_of-work-in-Spent
shape_of-work-in-Spent c = c.run_to_end-stop.auto.work ∙ c.loop-used.invariant.3
