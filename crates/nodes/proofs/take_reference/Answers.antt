-- `take_reference` meets its contract: the group is unset, or what comparing its bytes tells is where the reference leads, or that the steps are
-- too few.
use mathlib.Core.Path.{◌∙◌}
use native.Mathlib.Omega.{arith}
use Prim.Native.Nat.{◌+◌}
use lib.ListN.{get_or}
use Rattle.syntax.specs.Limits.{unset}
use Rattle.machine.specs.Code.{folded_of}
use Rattle.nodes.proofs.Comparing.{reference-unset, reference-unlike, reference-same, reference-inside, reference-long}
use Rattle.nodes.proofs.take_reference.Goals as goal

pub returns-then-from-unset_position : goal.returns-then-from-unset_position
returns-then-from-unset_position c = (omega arith, c.requires.pc_value.2, rw c.fall_back-fallen.ensures (reference-unset c.args.code.now c.args.sub.now c.args.regs.now c.args.work.now c.args.m c.args.left c.requires.pc_value.0 c.requires.pc_value.1 c.requires.pc_value.4 c.requires.pc_value.5 (c.if-from-unset_position.true ∙ c.unset_position.ensures)))

pub overflow_add-on : goal.overflow_add-on
unfolding unset folded_of
overflow_add-on c = let w = rw c.in-Same.is at c.compare.ensures in
    omega (arith, c.requires.sub_len_bound.0, reference-inside c.args.code.now c.args.sub.now c.args.regs.now c.args.work.now c.args.m c.args.left c.requires.pc_value.0 c.requires.pc_value.1 c.requires.pc_value.4 c.requires.pc_value.5 _ c.saturating_sub-n.ensures (omega (arith, c.if-from-unset_position.false, c.unset_position.ensures, c.type_inv.regs (get_or c.args.code.now (c.args.m.pc + 3) 0))) w)

pub overflow_add-result : goal.overflow_add-result
overflow_add-result c = let w = rw c.in-Same.is at c.compare.ensures in
    omega (arith, w.2)

pub overflow_add-result-in-Unlike : goal.overflow_add-result-in-Unlike
overflow_add-result-in-Unlike c = let w = rw c.in-Unlike.is at c.compare.ensures in
    omega (arith, w.2)

pub returns-in-Same : goal.returns-in-Same
unfolding unset folded_of
returns-in-Same c = let w = rw c.in-Same.is at c.compare.ensures in
    (omega arith, omega (arith, w.2), reference-same c.args.code.now c.args.sub.now c.args.regs.now c.args.work.now c.args.m c.args.left c.requires.pc_value.0 c.requires.pc_value.1 c.requires.pc_value.4 c.requires.pc_value.5 _ c.saturating_sub-n.ensures (omega (arith, c.if-from-unset_position.false, c.unset_position.ensures, c.type_inv.regs (get_or c.args.code.now (c.args.m.pc + 3) 0))) w)

pub returns-in-Unlike : goal.returns-in-Unlike
unfolding unset folded_of
returns-in-Unlike c = let w = rw c.in-Unlike.is at c.compare.ensures in
    (omega arith, omega (arith, w.2), rw c.fall_back-fallen-in-Unlike.ensures (reference-unlike c.args.code.now c.args.sub.now c.args.regs.now c.args.work.now c.args.m c.args.left c.requires.pc_value.0 c.requires.pc_value.1 c.requires.pc_value.4 c.requires.pc_value.5 _ c.saturating_sub-n.ensures (omega (arith, c.if-from-unset_position.false, c.unset_position.ensures, c.type_inv.regs (get_or c.args.code.now (c.args.m.pc + 3) 0))) _ w))

pub returns-in-TooMany : goal.returns-in-TooMany
unfolding unset folded_of
returns-in-TooMany c = let w = rw c.in-TooMany.is at c.compare.ensures in
    reference-long c.args.code.now c.args.sub.now c.args.regs.now c.args.work.now c.args.m c.args.left c.requires.pc_value.0 c.requires.pc_value.1 c.requires.pc_value.4 c.requires.pc_value.5 _ c.saturating_sub-n.ensures (omega (arith, c.if-from-unset_position.false, c.unset_position.ensures, c.type_inv.regs (get_or c.args.code.now (c.args.m.pc + 3) 0))) w
