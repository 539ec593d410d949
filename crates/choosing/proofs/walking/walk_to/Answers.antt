-- The loop's invariant: the machine is ready for as many moves as are left, and the log is within what is lent. The measure is the moves that are left.
use mathlib.Core.Path.{refl, ◌∙◌}
use native.Mathlib.Omega.{arith}
use Rattle.syntax.specs.Limits.{row_length}
use Rattle.choosing.proofs.Going.{ready-start, fits-here, stack-here, high-here, room-here, moves-on}
use Rattle.choosing.proofs.walking.walk_to.Goals as goal

pub bounds-wanted-0 : goal.bounds-wanted-0
unfolding row_length
bounds-wanted-0 c = omega (arith, c.requires.regs_len.1)

pub loop-head-init : goal.loop-head-init
loop-head-init c = record { size = refl; wide = refl; proposal_size = refl; ways_size = refl; within = c.in_ok-log.ensures; ready = ready-start c.args.code.now c.args.sub.now c.args.regs.now c.args.work.now c.args.entry _ c.args.budget c.requires.by_index c.start-head.result (c.start-head.ensures c.args.regs.now c.args.work.now) }

pub shape_of-regs-then-rest-eq0 : goal.shape_of-regs-then-rest-eq0
shape_of-regs-then-rest-eq0 c = c.loop-head.invariant.size

pub shape_of-work-then-rest-eq0 : goal.shape_of-work-then-rest-eq0
shape_of-work-then-rest-eq0 c = c.loop-head.invariant.wide

pub shape_of-proposal-then-rest-eq0 : goal.shape_of-proposal-then-rest-eq0
shape_of-proposal-then-rest-eq0 c = c.loop-head.invariant.proposal_size ∙ c.begin.auto.proposal

pub shape_of-ways-then-rest-eq0 : goal.shape_of-ways-then-rest-eq0
shape_of-ways-then-rest-eq0 c = c.loop-head.invariant.ways_size ∙ c.begin.auto.ways

pub offset_bounds-code-head : goal.offset_bounds-code-head
offset_bounds-code-head c = omega (arith, (fits-here c.args.code.now c.args.sub.now c.loop-head.regs c.loop-head.work c.loop-head.head c.loop-head.rest c.loop-head.invariant.ready c.loop-head-test.true).here)

pub bounds-code-head : goal.bounds-code-head
bounds-code-head c = (fits-here c.args.code.now c.args.sub.now c.loop-head.regs c.loop-head.work c.loop-head.head c.loop-head.rest c.loop-head.invariant.ready c.loop-head-test.true).here

pub shape_of-regs-then-kind-ge-BREAK : goal.shape_of-regs-then-kind-ge-BREAK
shape_of-regs-then-kind-ge-BREAK c = c.loop-head.invariant.size

pub shape_of-work-then-kind-ge-BREAK : goal.shape_of-work-then-kind-ge-BREAK
shape_of-work-then-kind-ge-BREAK c = c.loop-head.invariant.wide

pub shape_of-proposal-then-kind-ge-BREAK : goal.shape_of-proposal-then-kind-ge-BREAK
shape_of-proposal-then-kind-ge-BREAK c = c.loop-head.invariant.proposal_size ∙ c.begin.auto.proposal

pub shape_of-ways-then-kind-ge-BREAK : goal.shape_of-ways-then-kind-ge-BREAK
shape_of-ways-then-kind-ge-BREAK c = c.loop-head.invariant.ways_size ∙ c.begin.auto.ways

pub is_there-requires : goal.is_there-requires
is_there-requires c = (c.loop-head.invariant.size ∙ c.requires.regs_len.0, c.requires.regs_len.1)

pub shape_of-regs-then-is_there : goal.shape_of-regs-then-is_there
shape_of-regs-then-is_there c = c.loop-head.invariant.size

pub shape_of-work-then-is_there : goal.shape_of-work-then-is_there
shape_of-work-then-is_there c = c.loop-head.invariant.wide

pub shape_of-proposal-then-is_there : goal.shape_of-proposal-then-is_there
shape_of-proposal-then-is_there c = c.loop-head.invariant.proposal_size ∙ c.begin.auto.proposal

pub shape_of-ways-then-is_there : goal.shape_of-ways-then-is_there
shape_of-ways-then-is_there c = c.loop-head.invariant.ways_size ∙ c.begin.auto.ways

pub returns-then-is_there : goal.returns-then-is_there
returns-then-is_there c = c.loop-head.invariant.within.0

pub take_turn-requires-clause-pc_bound : goal.take_turn-requires-clause-pc_bound
take_turn-requires-clause-pc_bound c = (omega (arith, c.if-kind-ge-BREAK.false), c.loop-head.invariant.size ∙ c.requires.regs_len.0, room-here c.args.code.now c.args.sub.now c.loop-head.regs c.loop-head.work c.loop-head.head c.loop-head.rest c.loop-head.invariant.ready c.loop-head-test.true (omega (arith, c.if-rest-eq0.false)), c.requires.regs_len.2, c.requires.regs_len.3, high-here c.args.code.now c.args.sub.now c.loop-head.regs c.loop-head.work c.loop-head.head c.loop-head.rest c.loop-head.invariant.ready c.loop-head-test.true)

pub take_turn-requires-clause-fits : goal.take_turn-requires-clause-fits
take_turn-requires-clause-fits c = fits-here c.args.code.now c.args.sub.now c.loop-head.regs c.loop-head.work c.loop-head.head c.loop-head.rest c.loop-head.invariant.ready c.loop-head-test.true

pub take_turn-requires-clause-stack_fits : goal.take_turn-requires-clause-stack_fits
take_turn-requires-clause-stack_fits c = stack-here c.args.code.now c.args.sub.now c.loop-head.regs c.loop-head.work c.loop-head.head c.loop-head.rest c.loop-head.invariant.ready c.loop-head-test.true

pub take_turn-requires-clause-within : goal.take_turn-requires-clause-within
take_turn-requires-clause-within c = c.loop-head.invariant.within

pub overflow_sub-rest : goal.overflow_sub-rest
overflow_sub-rest c = omega (arith, c.if-rest-eq0.false)

pub loop-head-smaller : goal.loop-head-smaller
loop-head-smaller c = omega (arith, c.if-rest-eq0.false)

pub loop-head-preserved : goal.loop-head-preserved
loop-head-preserved c = record { size = c.take_turn.auto.regs ∙ c.loop-head.invariant.size; wide = c.take_turn.auto.work ∙ c.loop-head.invariant.wide; proposal_size = c.take_turn.auto.proposal ∙ c.loop-head.invariant.proposal_size; ways_size = c.take_turn.auto.ways ∙ c.loop-head.invariant.ways_size; within = c.in_ok-turn.ensures.within_2; ready = moves-on c.args.code.now c.args.sub.now c.loop-head.regs c.loop-head.work c.loop-head.head c.loop-head.rest c.loop-head.invariant.ready c.loop-head-test.true (omega (arith, c.if-rest-eq0.false)) c.take_turn.new.regs c.take_turn.new.work c.in_ok-turn.turn.head c.in_ok-turn.ensures.head_after c.take_turn.auto.work }

pub shape_of-regs : goal.shape_of-regs
shape_of-regs c = c.loop-head.invariant.size

pub shape_of-work : goal.shape_of-work
shape_of-work c = c.loop-head.invariant.wide

pub shape_of-proposal : goal.shape_of-proposal
shape_of-proposal c = c.loop-head.invariant.proposal_size ∙ c.begin.auto.proposal

pub shape_of-ways : goal.shape_of-ways
shape_of-ways c = c.loop-head.invariant.ways_size ∙ c.begin.auto.ways
