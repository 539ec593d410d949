-- What the node at hand has to have in range is so because it is of its kind.
use native.Mathlib.Omega.{arith}
use Rattle.machine.specs.Laws.Code.{fits-at}
use Rattle.choosing.proofs.choices.note_choice.Goals as goal

pub note_decision-requires : goal.note_decision-requires
note_decision-requires c = let f = fits-at c.args.code.now c.args.m.pc 7 c.if-kind-eq-REPEAT.true c.requires.fits in (f.0, c.requires.regs_len.2)

pub note_round-requires : goal.note_round-requires
note_round-requires c = let f = fits-at c.args.code.now c.args.m.pc 8 c.if-kind-eq-AGAIN.true c.requires.fits in (omega (arith, f.0), omega (arith, f.1, c.requires.regs_len.0), c.requires.regs_len.2)

pub note_run-requires : goal.note_run-requires
note_run-requires c = let f = fits-at c.args.code.now c.args.m.pc 10 c.if-kind-eq-RUN.true c.requires.fits in (f.0, f.1, c.requires.regs_len.1, c.requires.regs_len.2)
