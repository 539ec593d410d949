-- `take_reference` meets its contract: the group is unset, or comparing its bytes tells whether they stand here too, and what that costs. More of them
-- than there are steps for are never compared.
use mathlib.Core.Path.{◌∙◌}
use native.Mathlib.Omega.{arith}
use Prim.Native.Nat.{◌+◌}
use lib.ListN.{get_or}
use Rattle.syntax.specs.Limits.{unset}
use Rattle.machine.specs.Code.{folded_of}
use Rattle.turns.proofs.Turning.{refers-unset, refers-same, refers-unlike, refers-inside, never-long}
use Rattle.turns.proofs.items.take_reference.Goals as goal

pub returns-then-from-unset_position : goal.returns-then-from-unset_position
returns-then-from-unset_position c = λ choices. refers-unset c.args.code.now c.args.sub.now c.args.regs.now c.args.pc c.args.at c.requires.1 c.requires.2 (c.if-from-unset_position.true ∙ c.unset_position.ensures) _

pub overflow_add-result : goal.overflow_add-result
unfolding unset folded_of
overflow_add-result c = (let w = rw c.in-Same.is at c.compare.ensures in omega (arith, c.requires.3, refers-inside c.args.code.now c.args.sub.now c.args.regs.now c.args.pc c.args.at c.requires.1 c.requires.2 _ c.saturating_sub-n.ensures (omega (arith, c.if-from-unset_position.false, c.unset_position.ensures, c.type_inv.regs (get_or c.args.code.now (c.args.pc + 3) 0))) _ w))

pub overflow_add-result-in-Unlike : goal.overflow_add-result-in-Unlike
unfolding unset folded_of
overflow_add-result-in-Unlike c = (let w = rw c.in-Unlike.is at c.compare.ensures in omega (arith, w.2))

pub returns-in-Same : goal.returns-in-Same
unfolding unset folded_of
returns-in-Same c = (let w = rw c.in-Same.is at c.compare.ensures in λ choices. refers-same c.args.code.now c.args.sub.now c.args.regs.now c.args.pc c.args.at c.requires.1 c.requires.2 _ c.saturating_sub-n.ensures (omega (arith, c.if-from-unset_position.false, c.unset_position.ensures, c.type_inv.regs (get_or c.args.code.now (c.args.pc + 3) 0))) _ w _)

pub returns-in-Unlike : goal.returns-in-Unlike
unfolding unset folded_of
returns-in-Unlike c = (let w = rw c.in-Unlike.is at c.compare.ensures in λ choices. refers-unlike c.args.code.now c.args.sub.now c.args.regs.now c.args.pc c.args.at c.requires.1 c.requires.2 _ c.saturating_sub-n.ensures (omega (arith, c.if-from-unset_position.false, c.unset_position.ensures, c.type_inv.regs (get_or c.args.code.now (c.args.pc + 3) 0))) _ _ w _)

pub returns-in-TooMany : goal.returns-in-TooMany
unfolding unset folded_of
returns-in-TooMany c = (let w = rw c.in-TooMany.is at c.compare.ensures in λ choices. absurd (never-long c.args.code.now c.args.sub.now c.args.regs.now c.args.pc c.args.at c.requires.1 c.requires.2 _ c.saturating_sub-n.ensures (omega (arith, c.if-from-unset_position.false, c.unset_position.ensures, c.type_inv.regs (get_or c.args.code.now (c.args.pc + 3) 0))) _ c.requires.3 (omega arith) w))
