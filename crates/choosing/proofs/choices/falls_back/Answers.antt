-- What a run's node has to have in range is so because the node at hand is a run's.
use native.Mathlib.Omega.{arith}
use Rattle.machine.specs.Laws.Code.{fits-at}
use Rattle.choosing.proofs.choices.falls_back.Goals as goal

pub run_length-taken-requires : goal.run_length-taken-requires
run_length-taken-requires c = let f = fits-at c.args.code.now c.args.m.pc 10 c.if-kind-eq-RUN.true c.requires.fits in (f.0, f.1, omega (arith, c.requires.regs_len.1))

pub bounds-code-pc-then-kind-eq-RUN : goal.bounds-code-pc-then-kind-eq-RUN
bounds-code-pc-then-kind-eq-RUN c = let f = fits-at c.args.code.now c.args.m.pc 10 c.if-kind-eq-RUN.true c.requires.fits in omega (arith, f.0)
