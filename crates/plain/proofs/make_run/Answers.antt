-- `make_run` meets its contract: the bytes are too few, or the ends below them are kept.
use mathlib.Core.Path.{sym, ◌∙◌}
use Rattle.plain.proofs.Moving.{run-few, run-enough}
use Rattle.plain.proofs.make_run.Goals as goal

pub returns-then-k-least : goal.returns-then-k-least
returns-then-k-least c = c.fall_back.ensures ∙ sym (run-few c.args.code.now c.args.sub.now c.args.regs.now c.args.work.now c.args.m c.run_bytes-k.result c.run_bytes-k.ensures.0 c.if-k-least.true)

pub returns : goal.returns
returns c = c.go_down.ensures _ ∙ sym (run-enough c.args.code.now c.args.sub.now c.args.regs.now c.args.work.now c.args.m c.run_bytes-k.result c.run_bytes-k.ensures.0 c.if-k-least.false)
