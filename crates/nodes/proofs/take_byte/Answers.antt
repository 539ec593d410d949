-- `take_byte` meets its contract: a byte of the set is taken, another one or the end is fallen back from.
use mathlib.Core.Path.{sym, ◌∙◌}
use mathlib.Core.Logic.{⊎_elim}
use Rattle.nodes.proofs.Tests.{byte-hit, byte-miss, byte-out}
use Rattle.nodes.proofs.take_byte.Goals as goal

pub returns-then-contains : goal.returns-then-contains
returns-then-contains c = sym (byte-hit c.args.code.now c.args.sub.now c.args.regs.now c.args.work.now c.args.m c.if-at-sub.true (sym c.contains.ensures ∙ c.if-contains.true))

pub returns : goal.returns
returns c = c.fall_back.ensures ∙ ⊎_elim (λ w. sym (byte-miss c.args.code.now c.args.sub.now c.args.regs.now c.args.work.now c.args.m w.if-at-sub.true (sym w.contains.ensures ∙ w.if-contains.false))) (λ w. sym (byte-out c.args.code.now c.args.sub.now c.args.regs.now c.args.work.now c.args.m w.if-at-sub.false)) c.if-at-sub.branch-raw
