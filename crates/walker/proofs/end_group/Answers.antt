-- `end_group` meets its contract: with few steps left the group closes alone; where it closes in vain the steps told lead back, where the byte behind it is there
-- each of the two nodes leads on by its move, and else the promise is that of `leave_group`.
use mathlib.Core.Path.{◌≡◌, ◌∙◌}
use native.Mathlib.Omega.{arith}
use lib.ListN.{get_or}
use Rattle.machine.specs.Words.{stack_of}
use Rattle.machine.specs.Laws.Code.{spans-in-registers, fits-at}
use Rattle.walker.proofs.Stepping.{live-closed, pc-closed, rest-again, stepping-start, stepping-node, stepping-two, stepping-fits, stepping-stack, stepping-low}
use Rattle.behind.proofs.Vain.{closed-fits}
use Rattle.walker.proofs.end_group.Goals as goal

pub close_group-alone-requires : goal.close_group-alone-requires
close_group-alone-requires c = let g = stepping-start c.args.code.now c.args.sub.now c.args.regs.now c.args.work.now c.args.m c.args.left c.requires.by_index in
    let f = fits-at c.args.code.now c.args.m.pc 4 c.requires.pc_value.0 (stepping-fits g c.requires.pc_value.1) in
    omega (arith, f.0, f.1, f.2, spans-in-registers, stepping-low g c.requires.pc_value.1, c.requires.pc_value.2, c.requires.pc_value.3)

pub returns-then-left-lt3 : goal.returns-then-left-lt3
returns-then-left-lt3 c = let g = stepping-start c.args.code.now c.args.sub.now c.args.regs.now c.args.work.now c.args.m c.args.left c.requires.by_index in
    let k = c.close_group-alone in
    let e = k.ensures c.args.sub.now in
    let live = live-closed c.args.code.now c.args.sub.now c.args.regs.now c.args.work.now k.new.regs k.new.work c.args.m k.result e in
    let h = stepping-node g 4 c.requires.pc_value.1 c.requires.pc_value.0 (omega arith) c.requires.pc_value.2 k.new.regs k.new.work k.result e k.auto.regs k.auto.work in
    (omega (arith, c.requires.pc_value.2), h.leads)

pub look_behind-requires : goal.look_behind-requires
look_behind-requires c = let g = stepping-start c.args.code.now c.args.sub.now c.args.regs.now c.args.work.now c.args.m c.args.left c.requires.by_index in
    let f = fits-at c.args.code.now c.args.m.pc 4 c.requires.pc_value.0 (stepping-fits g c.requires.pc_value.1) in
    record {
      pc_in_bounds = (f.0, c.requires.pc_value.0, f.1, f.2);
      regs_len = (c.requires.pc_value.3, c.requires.pc_value.5);
      fits = closed-fits c.args.code.now c.args.sub.now c.args.regs.now c.args.work.now c.args.m c.args.left c.requires.pc_value.1 c.requires.pc_value.0 c.requires.pc_value.2 c.requires.by_index;
    }

pub fall_back-fallen-requires : goal.fall_back-fallen-requires
fall_back-fallen-requires c = let g = stepping-start c.args.code.now c.args.sub.now c.args.regs.now c.args.work.now c.args.m c.args.left c.requires.by_index in
    record {
      regs_len = (c.requires.pc_value.3, omega (arith, stepping-low g c.requires.pc_value.1));
      stack_fits = stepping-stack g c.requires.pc_value.1;
    }

pub overflow_sub-fewer : goal.overflow_sub-fewer
overflow_sub-fewer c = let told = rw c.in-Missing.is at c.look_behind.ensures in
    omega (arith, told.1, c.if-left-lt3.false)

pub close_group-closed-requires : goal.close_group-closed-requires
close_group-closed-requires c = let g = stepping-start c.args.code.now c.args.sub.now c.args.regs.now c.args.work.now c.args.m c.args.left c.requires.by_index in
    let f = fits-at c.args.code.now c.args.m.pc 4 c.requires.pc_value.0 (stepping-fits g c.requires.pc_value.1) in
    omega (arith, f.0, f.1, f.2, spans-in-registers, stepping-low g c.requires.pc_value.1, c.requires.pc_value.2, c.requires.pc_value.3)

pub take_byte-taken-requires : goal.take_byte-taken-requires
take_byte-taken-requires c = let g = stepping-start c.args.code.now c.args.sub.now c.args.regs.now c.args.work.now c.args.m c.args.left c.requires.by_index in
    let k = c.close_group-closed in
    let e = k.ensures c.args.sub.now in
    let live = live-closed c.args.code.now c.args.sub.now c.args.regs.now c.args.work.now k.new.regs k.new.work c.args.m k.result e in
    let h = stepping-node g 4 c.requires.pc_value.1 c.requires.pc_value.0 (omega arith) c.requires.pc_value.2 k.new.regs k.new.work k.result e k.auto.regs k.auto.work in
    let there = rw c.in-There.is at c.look_behind.ensures in
    let byte : get_or c.args.code.now k.result.pc 0 ≡ 0 = rw (pc-closed c.args.code.now c.args.sub.now c.args.regs.now c.args.work.now k.new.regs k.new.work c.args.m k.result live e) there in
    let byte_fits = fits-at c.args.code.now k.result.pc 0 byte (stepping-fits h live) in
    record {
      pc_in_bounds = (byte_fits, c.requires.pc_value.4, k.auto.regs ∙ c.requires.pc_value.3, omega (arith, stepping-low h live));
      stack_fits = stepping-stack h live;
    }

pub returns-in-Missing : goal.returns-in-Missing
returns-in-Missing c = let told = rw c.in-Missing.is at c.look_behind.ensures in
    let n = c.in-Missing.steps in
    let z = rest-again c.args.left n (omega (arith, told.1, c.if-left-lt3.false)) in
    (omega (arith, told.0, told.1, c.if-left-lt3.false), rw (z, c.fall_back-fallen.ensures, c.requires.pc_value.1) (told.2 (stack_of c.args.work.now c.args.m.height)))

pub returns-in-There : goal.returns-in-There
returns-in-There c = let g = stepping-start c.args.code.now c.args.sub.now c.args.regs.now c.args.work.now c.args.m c.args.left c.requires.by_index in
    let k = c.close_group-closed in
    let e = k.ensures c.args.sub.now in
    let live = live-closed c.args.code.now c.args.sub.now c.args.regs.now c.args.work.now k.new.regs k.new.work c.args.m k.result e in
    let h = stepping-node g 4 c.requires.pc_value.1 c.requires.pc_value.0 (omega arith) c.requires.pc_value.2 k.new.regs k.new.work k.result e k.auto.regs k.auto.work in
    let there = rw c.in-There.is at c.look_behind.ensures in
    let byte : get_or c.args.code.now k.result.pc 0 ≡ 0 = rw (pc-closed c.args.code.now c.args.sub.now c.args.regs.now c.args.work.now k.new.regs k.new.work c.args.m k.result live e) there in
    let t = c.take_byte-taken in
    let w = stepping-two (stepping-node h 0 live byte (omega arith) (omega (arith, c.if-left-lt3.false)) t.new.regs t.new.work t.result t.ensures t.auto.regs t.auto.work) in
    (omega (arith, c.if-left-lt3.false), w.leads)
