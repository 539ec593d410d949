-- `tell_refuted` meets its contract: the node's numbers and its registers are in range, because the node at hand is.
use native.Mathlib.Omega.{arith}
use Rattle.machine.specs.Laws.Code.{fits-at}
use Rattle.plain.proofs.tell_refuted.Goals as goal

pub bounds-code-pc : goal.bounds-code-pc
bounds-code-pc c = let f = fits-at c.args.code.now c.args.m.pc 17 c.requires.pc_value.0 c.requires.fits in
    omega (arith, f.0)

pub overflow_cast-register : goal.overflow_cast-register
overflow_cast-register c = let f = fits-at c.args.code.now c.args.m.pc 17 c.requires.pc_value.0 c.requires.fits in
    omega (arith, f.1, c.requires.pc_value.1)

pub bounds-code-pc-2 : goal.bounds-code-pc-2
bounds-code-pc-2 c = let f = fits-at c.args.code.now c.args.m.pc 17 c.requires.pc_value.0 c.requires.fits in
    omega (arith, f.0)

pub overflow_add-note : goal.overflow_add-note
overflow_add-note c = let f = fits-at c.args.code.now c.args.m.pc 17 c.requires.pc_value.0 c.requires.fits in
    omega (arith, f.1, c.requires.pc_value.1)

pub offset_bounds-regs-register : goal.offset_bounds-regs-register
offset_bounds-regs-register c = let f = fits-at c.args.code.now c.args.m.pc 17 c.requires.pc_value.0 c.requires.fits in
    omega (arith, f.1, c.requires.pc_value.1)

pub bounds-regs-register : goal.bounds-regs-register
bounds-regs-register c = let f = fits-at c.args.code.now c.args.m.pc 17 c.requires.pc_value.0 c.requires.fits in
    omega (arith, f.1, c.requires.pc_value.1)
