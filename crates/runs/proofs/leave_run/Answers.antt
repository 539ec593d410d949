-- `leave_run` meets its contract: the run goes on from its highest end, or from the first one below it that is not passed over, or falls back
-- where all are; and the ends that are passed over take more steps than are left, or no more.
use native.Mathlib.Omega.{arith}
use native.Mathlib.Nat.{mul-le-mul_left}
use lib.ListN.{drop, length-drop}
use Rattle.charset.specs.Class.{has}
use Rattle.machine.specs.Words.{stack_of}
use Rattle.run_ends.proofs.Bytes.{rest-whole}
use Rattle.runs.proofs.Leaving.{left-some, left-none, left-long}
use Rattle.runs.proofs.leave_run.Goals as goal

pub returns-then-high-low : goal.returns-then-high-low
returns-then-high-low c = λ here l. (c.requires.low_le_high.1, c.requires.low_le_high.2, rw (c.go_down-only.ensures c.args.regs.now) l)

pub returns-in_default : goal.returns-in_default
returns-in_default c = λ here l. (c.requires.low_le_high.1, c.requires.low_le_high.2, rw (c.go_down-made.ensures c.args.regs.now) l)

pub offset_bounds-code-gate : goal.offset_bounds-code-gate
offset_bounds-code-gate c = omega (arith, c.in-Some.ensures.2, c.requires.low_le_high.3)

pub slice_bounds-missed_ends-count : goal.slice_bounds-missed_ends-count
slice_bounds-missed_ends-count c = omega (arith, c.in-Some.ensures.2)

pub slice_bounds-missed_ends-start : goal.slice_bounds-missed_ends-start
slice_bounds-missed_ends-start c = omega (arith, c.in-Some.ensures.2)

pub slice_bounds-missed_ends-end : goal.slice_bounds-missed_ends-end
slice_bounds-missed_ends-end c = omega (arith, c.in-Some.ensures.2)

pub missed_ends-n-requires : goal.missed_ends-n-requires
missed_ends-n-requires c = (rw (rest-whole c.args.code.now c.in-Some.gate.base) (simp length-drop (omega (arith, c.in-Some.ensures.2))), omega (arith, c.min-most.ensures))

pub overflow_mul-all : goal.overflow_mul-all
overflow_mul-all c = omega (arith, mul-le-mul_left c.missed_ends-n.result c.in-Some.ensures.1, c.missed_ends-n.ensures.0, c.min-most.ensures)

pub overflow_add-all : goal.overflow_add-all
overflow_add-all c = omega (arith, mul-le-mul_left c.missed_ends-n.result c.in-Some.ensures.1, c.missed_ends-n.ensures.0, c.min-most.ensures)

pub returns-then-left-all : goal.returns-then-left-all
returns-then-left-all c = let f = has (drop c.in-Some.gate.base c.args.code.now) in
    let asks = c.in-Some.ensures.3 c.args.sub.now in
    let missed = rw (rest-whole c.args.code.now c.in-Some.gate.base) at c.missed_ends-n.ensures.1 in
    λ here l. left-long f asks c.args.high c.args.low c.args.regs.now (stack_of c.args.work.now c.args.height) c.requires.low_le_high.0 c.missed_ends-n.result missed here c.args.steps l (omega (arith, c.missed_ends-n.ensures.0, c.min-most.ensures)) (omega (arith, c.if-left-all.true))

pub returns-then-n-ends : goal.returns-then-n-ends
returns-then-n-ends c = let f = has (drop c.in-Some.gate.base c.args.code.now) in
    let asks = c.in-Some.ensures.3 c.args.sub.now in
    let missed = rw (rest-whole c.args.code.now c.in-Some.gate.base) at c.missed_ends-n.ensures.1 in
    λ here l. (omega (arith, c.requires.low_le_high.1), c.if-left-all.false, rw (c.go_down-made-then-n-ends.ensures c.args.regs.now) (left-some f asks c.args.high c.args.low c.args.regs.now (stack_of c.args.work.now c.args.height) c.requires.low_le_high.0 c.missed_ends-n.result missed here c.args.steps l (omega (arith, c.if-n-ends.true))))

pub returns : goal.returns
returns c = let f = has (drop c.in-Some.gate.base c.args.code.now) in
    let asks = c.in-Some.ensures.3 c.args.sub.now in
    let missed = rw (rest-whole c.args.code.now c.in-Some.gate.base) at c.missed_ends-n.ensures.1 in
    λ here l. (omega (arith, c.requires.low_le_high.1), c.if-left-all.false, rw c.fall_back-fallen.ensures (left-none f asks c.args.high c.args.low c.args.regs.now (stack_of c.args.work.now c.args.height) c.requires.low_le_high.0 c.missed_ends-n.result missed here c.args.steps l (omega (arith, c.if-n-ends.false, c.missed_ends-n.ensures.0, c.min-most.ensures))))
