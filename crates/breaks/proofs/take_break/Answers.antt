-- `take_break` meets its contract: so many steps lead to where it goes on, or they are too many.
use native.Mathlib.Omega.{arith}
use Rattle.breaks.proofs.Breaking.{break-goes, break-falls, break-long, break-some}
use Rattle.breaks.proofs.take_break.Goals as goal

-- src/breaks.rt:91:9
pub returns-then-left-found : goal.returns-then-left-found
returns-then-left-found c = break-long c.args.code.now c.args.sub.now c.args.regs.now c.args.work.now c.args.m c.requires.pc_value.0 c.requires.pc_value.1 _ c.break_at-found.ensures c.if-left-found.true

-- src/breaks.rt:95:9
pub returns-then-found-eq0 : goal.returns-then-found-eq0
returns-then-found-eq0 c = let b = c.break_at-found.ensures in
    (break-some c.args.code.now c.args.sub.now c.args.regs.now c.args.work.now c.args.m c.requires.pc_value.0 c.requires.pc_value.1 _ b, omega (arith, c.if-left-found.false), rw c.fall_back-back.ensures (break-falls c.args.code.now c.args.sub.now c.args.regs.now c.args.work.now c.args.m c.requires.pc_value.0 c.requires.pc_value.1 _ b c.if-found-eq0.true))

-- src/breaks.rt:101:17
pub overflow_add-result : goal.overflow_add-result
overflow_add-result c = omega (arith, c.break_at-found.ensures.inside c.if-found-eq0.false, c.requires.pc_value.5)

-- src/breaks.rt:75:1
pub returns : goal.returns
returns c = let b = c.break_at-found.ensures in
    (break-some c.args.code.now c.args.sub.now c.args.regs.now c.args.work.now c.args.m c.requires.pc_value.0 c.requires.pc_value.1 _ b, omega (arith, c.if-left-found.false), break-goes c.args.code.now c.args.sub.now c.args.regs.now c.args.work.now c.args.m c.requires.pc_value.0 c.requires.pc_value.1 _ b c.if-found-eq0.false)
