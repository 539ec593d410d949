-- `follow_reference` meets its contract: the reference holds, or it is fallen back from.
use mathlib.Core.Path.{sym, ◌∙◌}
use native.Mathlib.Omega.{arith}
use Rattle.machine.specs.Laws.Code.{spans-in-registers}
use Rattle.plain.proofs.Moving.{reference-back, reference-on}
use Rattle.plain.proofs.follow_reference.Goals as goal

pub refer-requires : goal.refer-requires
refer-requires c = (c.requires.pc_in_bounds.0, c.requires.pc_in_bounds.1, omega (arith, spans-in-registers, c.requires.pc_in_bounds.3), c.requires.pc_in_bounds.2)

pub returns-in-Some : goal.returns-in-Some
returns-in-Some c = sym (reference-on c.args.code.now c.args.sub.now c.args.regs.now c.args.work.now c.args.m _ (rw c.in-Some.is at c.refer.ensures))

pub returns-in-None : goal.returns-in-None
returns-in-None c = c.fall_back.ensures ∙ sym (reference-back c.args.code.now c.args.sub.now c.args.regs.now c.args.work.now c.args.m (rw c.in-None.is at c.refer.ensures))
