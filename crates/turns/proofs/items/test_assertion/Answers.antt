-- `test_assertion` meets its contract: the assertion holds, or not.
use mathlib.Core.Path.{sym, ◌∙◌}
use Rattle.turns.proofs.Turning.{assertion-held, assertion-failed}
use Rattle.turns.proofs.items.test_assertion.Goals as goal

pub returns-then-assertion_holds : goal.returns-then-assertion_holds
returns-then-assertion_holds c = (λ regs choices. assertion-held c.args.code.now c.args.sub.now c.args.pc c.args.at regs _ (sym c.assertion_holds.ensures ∙ c.if-assertion_holds.true))

pub returns : goal.returns
returns c = (λ regs choices. assertion-failed c.args.code.now c.args.sub.now c.args.pc c.args.at regs _ (sym c.assertion_holds.ensures ∙ c.if-assertion_holds.false))
