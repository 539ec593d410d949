-- The loop keeps the machine ready for as many steps as moves are left.
use mathlib.Core.Path.{refl, ◌∙◌}
use native.Mathlib.Omega.{arith}
use Rattle.tour.proofs.Turning.{ready-fits, ready-stack, ready-low, ready-short, ready_on}
use Rattle.tour.proofs.put_walk.Goals as goal

pub loop-head-init : goal.loop-head-init
loop-head-init c = (refl, refl, record { ready = c.requires.ready_for_some })

pub shape_of-regs-then-left-eq0 : goal.shape_of-regs-then-left-eq0
shape_of-regs-then-left-eq0 c = c.loop-head.invariant.0

pub shape_of-work-then-left-eq0 : goal.shape_of-work-then-left-eq0
shape_of-work-then-left-eq0 c = c.loop-head.invariant.1

pub put_move-requires : goal.put_move-requires
put_move-requires c = let g = c.loop-head.invariant in let t = c.loop-head-test.true in record {
  regs_len = (g.0 ∙ c.requires.regs_len.0, c.requires.regs_len.2, omega (arith, ready-low g.2 t));
  fits = ready-fits g.2 t;
}

pub advance-head-requires : goal.advance-head-requires
advance-head-requires c = let g = c.loop-head.invariant in let t = c.loop-head-test.true in let s = c.requires.regs_len in record {
  regs_len = (g.0 ∙ s.0, omega (arith, g.0, s.1), omega (arith, ready-low g.2 t), s.2, s.3, ready-short g.2 t);
  fits = ready-fits g.2 t;
  stack_fits = ready-stack g.2 t;
}

pub loop-head-preserved : goal.loop-head-preserved
loop-head-preserved c = let g = c.loop-head.invariant in (c.advance-head.auto.regs ∙ g.0, c.advance-head.auto.work ∙ g.1, ready_on g.2 c.loop-head-test.true (omega arith) _ _ _ c.advance-head.ensures c.advance-head.auto.work)

pub shape_of-regs : goal.shape_of-regs
shape_of-regs c = c.loop-head.invariant.0

pub shape_of-work : goal.shape_of-work
shape_of-work c = c.loop-head.invariant.1
