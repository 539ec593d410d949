-- At the end the machine falls back; every other move is the plain one, with the machine's own position as its note.
use mathlib.Core.Path.{sym, ◌∙◌}
use Rattle.machine.specs.Words.{configuration_of}
use Rattle.tour.proofs.Turning.{falls-behind, leads-here}
use Rattle.tour.proofs.advance.Goals as goal

pub returns-then-code-pc-eq-END : goal.returns-then-code-pc-eq-END
returns-then-code-pc-eq-END c = c.fall_back.ensures ∙ sym (falls-behind c.args.code.now c.args.sub.now (configuration_of c.args.regs.now c.args.work.now c.args.m) c.if-code-pc-eq-END.true)

pub returns : goal.returns
returns c = c.make_move.ensures ∙ leads-here c.args.code.now c.args.sub.now (configuration_of c.args.regs.now c.args.work.now c.args.m)
