-- `tell_run` meets its contract: what is told is what the run's move has among its events.
use Rattle.plain.proofs.Missing.{tells-run}
use Rattle.plain.proofs.tell_run.Goals as goal

pub returns : goal.returns
returns c = tells-run c.args.code.now c.args.sub.now c.args.regs.now c.args.m _ c.requires.0 c.run_bytes-k.result c.run_bytes-k.ensures.0 (λ start. rw (← c.is_full-full.ensures) (c.miss_unless.ensures start))
