-- `look_behind_round` meets its contract: the end of a round is in range, its registers are none of the group's, and each test is a fact that the three steps need.
use mathlib.Core.List.{[]}
use Prim.Native.Nat.{◌+◌}
use native.Mathlib.Omega.{arith}
use Rattle.behind.proofs.Vain.{round-fits, leads-vain}
use Rattle.behind.proofs.look_behind_round.Goals as goal

pub overflow_cast-slot : goal.overflow_cast-slot
overflow_cast-slot c = omega (arith, c.type_inv.code (c.args.m.pc + 3))

pub bounds-code-behind-2 : goal.bounds-code-behind-2
bounds-code-behind-2 c = omega (arith, (round-fits c.args.code.now c.args.sub.now c.args.behind c.args.m.at c.args.regs.now [] c.requires.fits c.if-code-behind-ne-AGAIN.false).0)

pub overflow_cast-counter : goal.overflow_cast-counter
overflow_cast-counter c = omega (arith, c.type_inv.code (c.args.behind + 4))

pub overflow_add-slot-2 : goal.overflow_add-slot-2
overflow_add-slot-2 c = omega (arith, c.type_inv.code (c.args.m.pc + 3))

pub overflow_add-counter-2 : goal.overflow_add-counter-2
overflow_add-counter-2 c = omega (arith, c.type_inv.code (c.args.behind + 4))

pub offset_bounds-regs-counter : goal.offset_bounds-regs-counter
offset_bounds-regs-counter c = omega (arith, c.type_inv.code (c.args.behind + 4))

pub bounds-regs-counter : goal.bounds-regs-counter
bounds-regs-counter c = omega (arith, (round-fits c.args.code.now c.args.sub.now c.args.behind c.args.m.at c.args.regs.now [] c.requires.fits c.if-code-behind-ne-AGAIN.false).1, c.requires.regs_len.0)

pub offset_bounds-regs-counter-2 : goal.offset_bounds-regs-counter-2
offset_bounds-regs-counter-2 c = omega (arith, c.type_inv.code (c.args.behind + 4))

pub bounds-regs-counter-2 : goal.bounds-regs-counter-2
bounds-regs-counter-2 c = omega (arith, (round-fits c.args.code.now c.args.sub.now c.args.behind c.args.m.at c.args.regs.now [] c.requires.fits c.if-code-behind-ne-AGAIN.false).1, c.requires.regs_len.0)

pub bounds-code-behind-3 : goal.bounds-code-behind-3
bounds-code-behind-3 c = omega (arith, (round-fits c.args.code.now c.args.sub.now c.args.behind c.args.m.at c.args.regs.now [] c.requires.fits c.if-code-behind-ne-AGAIN.false).0)

pub bounds-code-behind-4 : goal.bounds-code-behind-4
bounds-code-behind-4 c = omega (arith, (round-fits c.args.code.now c.args.sub.now c.args.behind c.args.m.at c.args.regs.now [] c.requires.fits c.if-code-behind-ne-AGAIN.false).0)

pub overflow_cast-onward : goal.overflow_cast-onward
overflow_cast-onward c = omega (arith, c.type_inv.code (c.args.behind + 6))

pub look_onward-requires : goal.look_onward-requires
look_onward-requires c = (c.requires.regs_len.1, omega (arith, c.type_inv.code (c.args.behind + 6)))

pub returns-then-look_onward : goal.returns-then-look_onward
returns-then-look_onward c = let fails = rw c.if-look_onward.true at c.look_onward.ensures in
    (omega arith, omega arith, λ st. leads-vain c.args.code.now c.args.sub.now c.args.regs.now c.args.m.pc c.args.m.at c.requires.pc_in_bounds.1 c.args.behind c.requires.pc_in_bounds.2 st c.if-code-behind-ne-AGAIN.false (omega (arith, c.if-counter-slot.false)) c.if-regs-counter.false (omega (arith, c.if-regs-counter-2.false)) fails)
