-- `run_to_end` meets its contract. The loop's invariant: the machine is ready for the steps that are left, and what it finds from here on is what
-- it finds from the start. The measure is the steps that are left.
use mathlib.Core.Path.{refl, ◌∙◌}
use native.Mathlib.Omega.{arith}
use Rattle.walker.proofs.Stepping.{several}
use Rattle.walker.proofs.Walking.{walking_start, walking-none, walking-fits, walking-ready, walking-out, walking-end, walking-to, walking-cut, made, walking_run}
use Rattle.walker.proofs.run_to_end.Goals as goal

pub loop-head-init : goal.loop-head-init
loop-head-init c = walking_start c.args.code.now c.args.sub.now c.args.regs.now c.args.work.now c.args.m c.args.budget c.requires.by_index

pub shape_of-regs-then-rest-eq0 : goal.shape_of-regs-then-rest-eq0
shape_of-regs-then-rest-eq0 c = c.loop-head.invariant.size

pub shape_of-work-then-rest-eq0 : goal.shape_of-work-then-rest-eq0
shape_of-work-then-rest-eq0 c = c.loop-head.invariant.wide

pub returns-then-rest-eq0 : goal.returns-then-rest-eq0
returns-then-rest-eq0 c = walking-out c.loop-head.invariant c.loop-head-test.true c.if-rest-eq0.true

pub offset_bounds-code-pc : goal.offset_bounds-code-pc
offset_bounds-code-pc c = omega (arith, (walking-fits c.loop-head.invariant c.loop-head-test.true).here, c.requires.regs_len.2)

pub bounds-code-pc : goal.bounds-code-pc
bounds-code-pc c = (walking-fits c.loop-head.invariant c.loop-head-test.true).here

pub overflow_sub-result : goal.overflow_sub-result
overflow_sub-result c = c.loop-head.invariant.few

pub overflow_add-result : goal.overflow_add-result
overflow_add-result c = omega (arith, c.loop-head.invariant.few, c.if-rest-eq0.false)

pub shape_of-regs-then-kind-eq-END : goal.shape_of-regs-then-kind-eq-END
shape_of-regs-then-kind-eq-END c = c.loop-head.invariant.size

pub shape_of-work-then-kind-eq-END : goal.shape_of-work-then-kind-eq-END
shape_of-work-then-kind-eq-END c = c.loop-head.invariant.wide

pub returns-then-kind-eq-END : goal.returns-then-kind-eq-END
returns-then-kind-eq-END c = walking-end c.loop-head.invariant c.loop-head-test.true (omega (arith, c.if-rest-eq0.false)) c.if-kind-eq-END.true

pub take_several-requires : goal.take_several-requires
take_several-requires c = let g = c.loop-head.invariant in
    let t = c.loop-head-test.true in
    record {
      kind_value = (refl, t, omega (arith, c.if-rest-eq0.false), g.size ∙ c.requires.regs_len.0, c.requires.regs_len.1, c.requires.regs_len.2);
      several = several _ c.if-kind-gt8.true c.if-kind-eq-END.false;
      by_index = walking-ready g;
    }

pub shape_of-regs-in_default : goal.shape_of-regs-in_default
shape_of-regs-in_default c = c.take_several.auto.regs ∙ c.loop-head.invariant.size

pub shape_of-work-in_default : goal.shape_of-work-in_default
shape_of-work-in_default c = c.take_several.auto.work ∙ c.loop-head.invariant.wide

pub returns-in_default : goal.returns-in_default
returns-in_default c = walking-cut c.loop-head.invariant _ _ _ c.take_several.ensures c.in_default.is

pub overflow_sub-rest : goal.overflow_sub-rest
overflow_sub-rest c = (made c.loop-head.invariant _ _ _ c.take_several.ensures _ _ c.in-Made.is).1

pub loop-head-smaller-then-kind-gt8 : goal.loop-head-smaller-then-kind-gt8
loop-head-smaller-then-kind-gt8 c = let r = made c.loop-head.invariant _ _ _ c.take_several.ensures _ _ c.in-Made.is in
    omega (arith, r.0, r.1)

pub loop-head-preserved-then-kind-gt8 : goal.loop-head-preserved-then-kind-gt8
loop-head-preserved-then-kind-gt8 c = let k = c.take_several.auto in
    walking_run c.loop-head.invariant _ _ _ c.take_several.ensures _ _ c.in-Made.is k.regs k.work

pub walk-w-requires : goal.walk-w-requires
walk-w-requires c = let g = c.loop-head.invariant in
    record {
      live_value = (c.loop-head-test.true, c.if-kind-gt8.false, omega (arith, c.if-rest-eq0.false), g.size ∙ c.requires.regs_len.0, c.requires.regs_len.1, c.requires.regs_len.2);
      by_index = walking-ready g;
    }

pub loop-head-smaller : goal.loop-head-smaller
loop-head-smaller c = omega (arith, c.walk-w.ensures.0)

pub loop-head-preserved : goal.loop-head-preserved
loop-head-preserved c = let r = c.walk-w in
    walking-to c.loop-head.invariant r.new.regs r.new.work r.result.head r.result.rest r.ensures.0 r.ensures.1 r.auto.regs r.auto.work

pub overflow_sub-result-2 : goal.overflow_sub-result-2
overflow_sub-result-2 c = c.loop-head.invariant.few

pub shape_of-regs : goal.shape_of-regs
shape_of-regs c = c.loop-head.invariant.size

pub shape_of-work : goal.shape_of-work
shape_of-work c = c.loop-head.invariant.wide

pub returns : goal.returns
returns c = walking-none c.loop-head.invariant c.loop-head-test.false
