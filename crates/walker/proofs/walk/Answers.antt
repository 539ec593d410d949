-- `walk` meets its contract. The loop's invariant: the steps used lead from the beginning to where the machine stands, and it stands elsewhere only
-- if there are some. The measure is the steps that are left.
use mathlib.Core.Path.{refl, ◌∙◌}
use native.Mathlib.Omega.{arith}
use Rattle.walker.proofs.Stepping.{stepping-start, stepping-ready, stepping-past, stepping-idle, stepping-to, stepping-fits}
use Rattle.walker.proofs.walk.Goals as goal

pub loop-head-init : goal.loop-head-init
loop-head-init c = stepping-start c.args.code.now c.args.sub.now c.args.regs.now c.args.work.now c.args.m c.args.left c.requires.by_index

pub shape_of-regs-then-rest-eq0 : goal.shape_of-regs-then-rest-eq0
shape_of-regs-then-rest-eq0 c = c.loop-head.invariant.size

pub shape_of-work-then-rest-eq0 : goal.shape_of-work-then-rest-eq0
shape_of-work-then-rest-eq0 c = c.loop-head.invariant.wide

pub returns-then-rest-eq0 : goal.returns-then-rest-eq0
returns-then-rest-eq0 c = (omega (arith, c.if-rest-eq0.true, c.requires.live_value.2), c.loop-head.invariant.leads)

pub offset_bounds-code-pc : goal.offset_bounds-code-pc
offset_bounds-code-pc c = omega (arith, (stepping-fits c.loop-head.invariant c.loop-head-test.true).here, c.requires.live_value.5)

pub bounds-code-pc : goal.bounds-code-pc
bounds-code-pc c = (stepping-fits c.loop-head.invariant c.loop-head-test.true).here

pub shape_of-regs-then-kind-gt8 : goal.shape_of-regs-then-kind-gt8
shape_of-regs-then-kind-gt8 c = c.loop-head.invariant.size

pub shape_of-work-then-kind-gt8 : goal.shape_of-work-then-kind-gt8
shape_of-work-then-kind-gt8 c = c.loop-head.invariant.wide

pub returns-then-kind-gt8 : goal.returns-then-kind-gt8
returns-then-kind-gt8 c = (omega (arith, stepping-past c.loop-head.invariant c.requires.live_value.1 c.if-kind-gt8.true), c.loop-head.invariant.leads)

pub advance-on-requires : goal.advance-on-requires
advance-on-requires c = let g = c.loop-head.invariant in
    record {
      kind_value = (refl, c.if-kind-gt8.false, c.loop-head-test.true, omega (arith, c.if-rest-eq0.false), g.size ∙ c.requires.live_value.3, c.requires.live_value.4, c.requires.live_value.5);
      by_index = stepping-ready g;
    }

pub loop-head-smaller : goal.loop-head-smaller
loop-head-smaller c = omega (arith, c.advance-on.ensures.0)

pub loop-head-preserved : goal.loop-head-preserved
loop-head-preserved c = let r = c.advance-on in stepping-to c.loop-head.invariant _ _ _ _ r.ensures.0 r.ensures.1 r.auto.regs r.auto.work

pub shape_of-regs : goal.shape_of-regs
shape_of-regs c = c.loop-head.invariant.size

pub shape_of-work : goal.shape_of-work
shape_of-work c = c.loop-head.invariant.wide

pub returns : goal.returns
returns c = (omega (arith, stepping-idle c.loop-head.invariant c.requires.live_value.0 c.loop-head-test.false), c.loop-head.invariant.leads)
