-- `begin_branch` meets its contract: no choice is left, or there is no branch of its number, or its body is next.
use mathlib.Core.Path.{sym, ap, ◌∙◌}
use native.Mathlib.Omega.{arith}
use Rattle.turns.specs.Turns.{branching}
use Rattle.turns.specs.Paces.{branch_said}
use Rattle.turns.proofs.Turning.{branch_read, branch-unread}
use Rattle.turns.proofs.turns.begin_branch.Goals as goal

pub returns-then-choices-read : goal.returns-then-choices-read
returns-then-choices-read c = λ sub regs. branch-unread c.args.code.now sub c.args.pc c.args.at regs c.args.choices.now c.args.read (omega (arith, c.if-choices-read.true))

pub overflow_cast-c : goal.overflow_cast-c
overflow_cast-c c = omega (arith, c.type_inv.choices c.args.read)

pub returns-in-None : goal.returns-in-None
unfolding branching
returns-in-None c = λ sub regs. branch_read c.args.code.now sub c.args.pc c.args.at regs c.args.choices.now c.args.read _ (omega (arith, c.if-choices-read.false)) (sym c.branch_body.ensures ∙ ap branch_said c.in-None.is)

pub returns-in-Some : goal.returns-in-Some
unfolding branching
returns-in-Some c = λ sub regs. branch_read c.args.code.now sub c.args.pc c.args.at regs c.args.choices.now c.args.read _ (omega (arith, c.if-choices-read.false)) (sym c.branch_body.ensures ∙ ap branch_said c.in-Some.is)
