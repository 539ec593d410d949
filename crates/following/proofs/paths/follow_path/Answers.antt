-- `follow_path` meets its contract: at every turn a path is still to come, which the budget that is left makes of what the whole budget makes of the whole.
use mathlib.Core.Path.{refl, sym, ◌∙◌}
use native.Mathlib.Omega.{arith}
use Rattle.following.proofs.Pathing.{going_start, going_on, safe-here, lost-at, lost-spent, on-spent, end-spent, end-missed, end-arrived}
use Rattle.following.proofs.paths.follow_path.Goals as goal

pub loop-entry-init : goal.loop-entry-init
loop-entry-init c = (going_start c.args.code.now c.args.sub.now c.args.choices.now c.args.regs.now c.args.entry c.args.start c.args.budget c.requires.0.0 c.requires.0.1, omega arith, omega arith, omega arith, omega arith)

pub overflow_cast-kind : goal.overflow_cast-kind
overflow_cast-kind c = omega (arith, c.loop-entry.invariant.1)

pub offset_bounds-code-pc : goal.offset_bounds-code-pc
offset_bounds-code-pc c = omega (arith, (safe-here c.args.code.now c.args.sub.now c.loop-entry.invariant.0.here.1).fits.here)

pub bounds-code-pc : goal.bounds-code-pc
bounds-code-pc c = omega (arith, (safe-here c.args.code.now c.args.sub.now c.loop-entry.invariant.0.here.1).fits.here)

pub shape_of-regs-then-left-eq0 : goal.shape_of-regs-then-left-eq0
shape_of-regs-then-left-eq0 c = c.loop-entry.invariant.0.size

pub returns-then-left-eq0 : goal.returns-then-left-eq0
returns-then-left-eq0 c = end-spent c.args.code.now c.args.sub.now c.args.choices.now c.args.regs.now c.args.entry c.args.start c.args.budget c.loop-entry.regs c.loop-entry.pc c.loop-entry.at c.loop-entry.read c.loop-entry.left c.loop-entry.invariant.0 c.if-kind-eq-END.true c.loop-entry.regs c.if-left-eq0.true

pub overflow_sub-result : goal.overflow_sub-result
overflow_sub-result c = omega (arith, c.loop-entry.invariant.0.few)

pub overflow_add-result : goal.overflow_add-result
overflow_add-result c = omega (arith, c.loop-entry.invariant.0.few, c.if-left-eq0.false)

pub shape_of-regs-then-read-choices : goal.shape_of-regs-then-read-choices
shape_of-regs-then-read-choices c = c.loop-entry.invariant.0.size

pub returns-then-read-choices : goal.returns-then-read-choices
returns-then-read-choices c = end-missed c.args.code.now c.args.sub.now c.args.choices.now c.args.regs.now c.args.entry c.args.start c.args.budget c.loop-entry.regs c.loop-entry.pc c.loop-entry.at c.loop-entry.read c.loop-entry.left c.loop-entry.invariant.0 c.if-kind-eq-END.true _ c.loop-entry.regs (omega (arith, c.if-left-eq0.false)) refl (omega (arith, c.if-read-choices.true))

pub overflow_sub-result-then-kind-eq-END : goal.overflow_sub-result-then-kind-eq-END
overflow_sub-result-then-kind-eq-END c = omega (arith, c.loop-entry.invariant.0.few)

pub overflow_add-result-then-kind-eq-END : goal.overflow_add-result-then-kind-eq-END
overflow_add-result-then-kind-eq-END c = omega (arith, c.loop-entry.invariant.0.few, c.if-left-eq0.false)

pub shape_of-regs-then-kind-eq-END : goal.shape_of-regs-then-kind-eq-END
shape_of-regs-then-kind-eq-END c = c.loop-entry.invariant.0.size

pub returns-then-kind-eq-END : goal.returns-then-kind-eq-END
returns-then-kind-eq-END c = end-arrived c.args.code.now c.args.sub.now c.args.choices.now c.args.regs.now c.args.entry c.args.start c.args.budget c.loop-entry.regs c.loop-entry.pc c.loop-entry.at c.loop-entry.read c.loop-entry.left c.loop-entry.invariant.0 c.if-kind-eq-END.true _ (omega (arith, c.if-left-eq0.false)) refl (omega (arith, c.if-read-choices.false))

pub take_turn-requires : goal.take_turn-requires
take_turn-requires c = (safe-here c.args.code.now c.args.sub.now c.loop-entry.invariant.0.here.1, c.if-kind-eq-END.false, c.requires.1)

pub shape_of-regs-then-left-steps : goal.shape_of-regs-then-left-steps
shape_of-regs-then-left-steps c = c.regs-1.given ∙ c.loop-entry.invariant.0.size

pub returns-then-left-steps : goal.returns-then-left-steps
returns-then-left-steps c = (let w = rw c.in-Err.is at c.take_turn.ensures in lost-spent c.args.code.now c.args.sub.now c.args.choices.now c.args.regs.now c.args.entry c.args.start c.args.budget c.loop-entry.regs c.loop-entry.pc c.loop-entry.at c.loop-entry.read c.loop-entry.left c.loop-entry.invariant.0 _ c.loop-entry.regs (sym w) (omega (arith, c.if-left-steps.true)))

pub overflow_sub-result-in-Err : goal.overflow_sub-result-in-Err
overflow_sub-result-in-Err c = omega (arith, c.loop-entry.invariant.0.few)

pub overflow_add-result-in-Err : goal.overflow_add-result-in-Err
overflow_add-result-in-Err c = omega (arith, c.loop-entry.invariant.0.few, c.if-left-steps.false)

pub shape_of-regs-in-Err : goal.shape_of-regs-in-Err
shape_of-regs-in-Err c = c.regs-1.given ∙ c.loop-entry.invariant.0.size

pub returns-in-Err : goal.returns-in-Err
returns-in-Err c = (let w = rw c.in-Err.is at c.take_turn.ensures in lost-at c.args.code.now c.args.sub.now c.args.choices.now c.args.regs.now c.args.entry c.args.start c.args.budget c.loop-entry.regs c.loop-entry.pc c.loop-entry.at c.loop-entry.read c.loop-entry.left c.loop-entry.invariant.0 _ _ c.loop-entry.regs (sym w) (omega (arith, c.if-left-steps.false)) refl)

pub shape_of-regs-then-left-step : goal.shape_of-regs-then-left-step
shape_of-regs-then-left-step c = c.regs-1.given ∙ c.loop-entry.invariant.0.size

pub returns-then-left-step : goal.returns-then-left-step
returns-then-left-step c = (let w = rw c.in-Ok.is at c.take_turn.ensures in on-spent c.args.code.now c.args.sub.now c.args.choices.now c.args.regs.now c.args.entry c.args.start c.args.budget c.loop-entry.regs c.loop-entry.pc c.loop-entry.at c.loop-entry.read c.loop-entry.left c.loop-entry.invariant.0 _ _ _ _ _ c.loop-entry.regs (sym w) (omega (arith, c.if-left-step.true)))

pub overflow_sub-left : goal.overflow_sub-left
overflow_sub-left c = omega (arith, c.if-left-step.false)

pub overflow_sub-left-in-Ok : goal.overflow_sub-left-in-Ok
overflow_sub-left-in-Ok c = omega (arith, c.if-left-step.false)

pub loop-entry-smaller : goal.loop-entry-smaller
loop-entry-smaller c = omega (arith, c.if-left-step.false)

pub loop-entry-preserved : goal.loop-entry-preserved
loop-entry-preserved c = (let w = rw c.in-Ok.is at c.take_turn.ensures in (going_on c.args.code.now c.args.sub.now c.args.choices.now c.args.regs.now c.args.entry c.args.start c.args.budget c.loop-entry.regs c.loop-entry.pc c.loop-entry.at c.loop-entry.read c.loop-entry.left c.loop-entry.invariant.0 _ _ _ _ _ _ (sym w) (omega (arith, c.if-left-step.false)) (omega arith) c.regs-1.given, omega arith, omega arith, omega arith, omega (arith, c.loop-entry.invariant.4)))
