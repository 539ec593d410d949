-- `take_run` meets its contract: the steps are too few, for the bytes that were looked at and so for all of them, or they lead behind the bytes,
-- or back if these are too few. That the next node is in range is what the machine is ready for.
use native.Mathlib.Omega.{arith}
use Rattle.runs.proofs.Leaving.{run_fits, run-stack, run-low, run_long, run-few, run-enough, run-next}
use Rattle.runs.proofs.take_run.Goals as goal

pub run_length-k-requires : goal.run_length-k-requires
run_length-k-requires c = let f = run_fits c.args.code.now c.args.sub.now c.args.regs.now c.args.work.now c.args.m c.args.left c.requires.pc_value.0 c.requires.pc_value.1 c.requires.by_index in
    (f.0, f.1, c.requires.pc_value.3)

pub bounds-code-pc : goal.bounds-code-pc
bounds-code-pc c = let f = run_fits c.args.code.now c.args.sub.now c.args.regs.now c.args.work.now c.args.m c.args.left c.requires.pc_value.0 c.requires.pc_value.1 c.requires.by_index in
    omega (arith, f.0)

pub returns-then-left-steps : goal.returns-then-left-steps
returns-then-left-steps c = run_long c.args.code.now c.args.sub.now c.args.regs.now c.args.work.now c.args.m c.args.left c.requires.pc_value.0 c.requires.pc_value.1 c.requires.by_index c.run_length-k.result c.run_steps-steps.result c.run_steps-steps.ensures c.run_length-k.ensures.0 c.if-left-steps.true

pub bounds-code-pc-2 : goal.bounds-code-pc-2
bounds-code-pc-2 c = let f = run_fits c.args.code.now c.args.sub.now c.args.regs.now c.args.work.now c.args.m c.args.left c.requires.pc_value.0 c.requires.pc_value.1 c.requires.by_index in
    omega (arith, f.0)

pub fall_back-fallen-requires : goal.fall_back-fallen-requires
fall_back-fallen-requires c = record {
  regs_len = (c.requires.pc_value.5, omega (arith, run-low c.args.code.now c.args.sub.now c.args.regs.now c.args.work.now c.args.m c.args.left c.requires.pc_value.0 c.requires.pc_value.1 c.requires.by_index c.requires.pc_value.2));
  stack_fits = run-stack c.args.code.now c.args.sub.now c.args.regs.now c.args.work.now c.args.m c.args.left c.requires.pc_value.0 c.requires.pc_value.1 c.requires.by_index;
}

pub returns-then-k-least : goal.returns-then-k-least
returns-then-k-least c = let l = run-few c.args.code.now c.args.sub.now c.args.regs.now c.args.work.now c.args.m c.args.left c.requires.pc_value.0 c.requires.pc_value.1 c.requires.by_index c.run_length-k.result c.run_steps-steps.result c.run_steps-steps.ensures c.run_length-k.ensures.0 c.if-left-steps.false c.if-k-least.true in
    (omega (arith, c.run_steps-steps.ensures 0 0), c.if-left-steps.false, rw c.fall_back-fallen.ensures l)

pub bounds-code-pc-3 : goal.bounds-code-pc-3
bounds-code-pc-3 c = let f = run_fits c.args.code.now c.args.sub.now c.args.regs.now c.args.work.now c.args.m c.args.left c.requires.pc_value.0 c.requires.pc_value.1 c.requires.by_index in
    omega (arith, f.0)

pub leave_run-requires : goal.leave_run-requires
leave_run-requires c = let one = c.run_steps-steps.ensures 0 0 in
    record {
      low_le_high = (omega (arith, c.if-k-least.false), omega arith, c.if-left-steps.false, c.requires.pc_value.4, c.requires.pc_value.5, run-low c.args.code.now c.args.sub.now c.args.regs.now c.args.work.now c.args.m c.args.left c.requires.pc_value.0 c.requires.pc_value.1 c.requires.by_index c.requires.pc_value.2);
      fits = run-next c.args.code.now c.args.sub.now c.args.regs.now c.args.work.now c.args.m c.args.left c.requires.pc_value.0 c.requires.pc_value.1 c.requires.by_index c.run_length-k.result c.run_steps-steps.result c.run_steps-steps.ensures c.run_length-k.ensures.0 c.if-left-steps.false c.if-k-least.false;
      stack_fits = run-stack c.args.code.now c.args.sub.now c.args.regs.now c.args.work.now c.args.m c.args.left c.requires.pc_value.0 c.requires.pc_value.1 c.requires.by_index;
    }

pub returns : goal.returns
returns c = c.leave_run.ensures _ (run-enough c.args.code.now c.args.sub.now c.args.regs.now c.args.work.now c.args.m c.args.left c.requires.pc_value.0 c.requires.pc_value.1 c.requires.by_index c.run_length-k.result c.run_steps-steps.result c.run_steps-steps.ensures c.run_length-k.ensures.0 c.if-left-steps.false c.if-k-least.false)
