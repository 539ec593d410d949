-- `try_start` meets its contract: a start that fails on its straight way leaves nothing after so many steps, and else the promise is that of the run.
use native.Mathlib.Omega.{arith}
use lib.ListN.{length}
use Rattle.machine.specs.Ready.{replay, all_tried}
use Rattle.openings.specs.Laws.Leading.{fails-until}
use Rattle.seeking.proofs.try_start.Goals as goal

pub returns-then-used-gt0 : goal.returns-then-used-gt0
unfolding replay
returns-then-used-gt0 c = let f = c.fails_soon-used.ensures (omega (arith, c.if-used-gt0.true)) in
    λ first t ready. rw (fails-until c.args.code.now c.args.subject.now c.args.entry c.args.begin c.fails_soon-used.result (length c.args.work.now) c.args.budget first c.args.regs.now t f.1 (omega (arith, f.0, c.requires.regs_len.3)) ready) (all_tried {used = c.fails_soon-used.result} (omega (arith, f.0, c.requires.regs_len.3)) ready.back)

pub run_to_end-requires : goal.run_to_end-requires
run_to_end-requires c = record {
  regs_len = (c.requires.regs_len.0, c.requires.regs_len.1, c.requires.regs_len.2);
  by_index = (c.requires.by_index.0, c.requires.by_index.1, rw (c.start-m.ensures c.args.regs.now c.args.work.now) c.requires.by_index.2);
}

pub returns : goal.returns
returns c = λ first t ready. c.run_to_end.ensures first t (rw (c.start-m.ensures c.args.regs.now c.args.work.now) ready)
