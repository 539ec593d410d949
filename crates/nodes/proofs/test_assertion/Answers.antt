-- `test_assertion` meets its contract: where the assertion holds the walk goes on, and else it is fallen back from.
use mathlib.Core.Path.{sym, ◌∙◌}
use Rattle.nodes.proofs.Tests.{assertion-hit, assertion-miss}
use Rattle.nodes.proofs.test_assertion.Goals as goal

pub returns-then-assertion_holds : goal.returns-then-assertion_holds
returns-then-assertion_holds c = sym (assertion-hit c.args.code.now c.args.sub.now c.args.regs.now c.args.work.now c.args.m (sym c.assertion_holds.ensures ∙ c.if-assertion_holds.true))

pub returns : goal.returns
returns c = c.fall_back.ensures ∙ sym (assertion-miss c.args.code.now c.args.sub.now c.args.regs.now c.args.work.now c.args.m (sym c.assertion_holds.ensures ∙ c.if-assertion_holds.false))
