-- An end's move is to fall back, and no other node below 12 keeps a note.
use mathlib.Core.Path.{◌∙◌}
use native.Mathlib.Omega.{arith}
use Rattle.machine.specs.Words.{configuration_of}
use Rattle.plain.specs.Telling.{leads-plain}
use Rattle.choosing.proofs.Going.{moved-end}
use Rattle.choosing.proofs.walking.move_on.Goals as goal

pub returns-then-code-m-eq-END : goal.returns-then-code-m-eq-END
returns-then-code-m-eq-END c = let s = c.args in c.fall_back.ensures ∙ moved-end s.code.now s.sub.now s.regs.now s.work.now s.m c.if-code-m-eq-END.true

pub returns : goal.returns
returns c = let s = c.args in
    c.make_move.ensures ∙ leads-plain s.code.now s.sub.now 0 (configuration_of s.regs.now s.work.now s.m) (λ e. omega (arith, c.requires.pc_bound.0))
