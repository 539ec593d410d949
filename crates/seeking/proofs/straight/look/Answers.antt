-- `look` meets its contract: each answer is the law of the node's kind.
use mathlib.Core.Path.{sym, ◌∙◌}
use native.Mathlib.Omega.{arith}
use Rattle.seeking.specs.Laws.Straight.{assertion-missed, assertion-held, group-opened}
use Rattle.seeking.proofs.straight.look.Goals as goal

pub returns-then-assertion_holds : goal.returns-then-assertion_holds
returns-then-assertion_holds c = assertion-held c.args.code.now c.args.sub.now c.args.pc c.args.at c.if-kind-eq-ASSERTION.true (sym c.assertion_holds.ensures ∙ c.if-assertion_holds.true)

pub returns-then-kind-eq-ASSERTION : goal.returns-then-kind-eq-ASSERTION
returns-then-kind-eq-ASSERTION c = (omega arith, assertion-missed c.args.code.now c.args.sub.now c.args.pc c.args.at c.if-kind-eq-ASSERTION.true (sym c.assertion_holds.ensures ∙ c.if-assertion_holds.false))

pub returns-then-kind-eq-OPEN : goal.returns-then-kind-eq-OPEN
returns-then-kind-eq-OPEN c = group-opened c.args.code.now c.args.sub.now c.args.pc c.args.at c.if-kind-eq-OPEN.true
