-- `leave_group` meets its contract: each node leads on by its one move (`Stepping`, as in the walk's loop), and the machine is at work behind it.
use native.Mathlib.Omega.{arith}
use Rattle.machine.specs.Laws.Code.{spans-in-registers, fits-at}
use Rattle.walker.proofs.Stepping.{live-closed, live-ended, stepping-start, stepping-node, stepping-two, stepping-three, stepping-fits, stepping-low}
use Rattle.walker.proofs.leave_group.Goals as goal

pub close_group-closed-requires : goal.close_group-closed-requires
close_group-closed-requires c = let g = stepping-start c.args.code.now c.args.sub.now c.args.regs.now c.args.work.now c.args.m c.args.left c.requires.by_index in
    let f = fits-at c.args.code.now c.args.m.pc 4 c.requires.pc_value.0 (stepping-fits g c.requires.pc_value.1) in
    omega (arith, f.0, f.1, f.2, spans-in-registers, stepping-low g c.requires.pc_value.1, c.requires.pc_value.2, c.requires.pc_value.3)

pub bounds-code-behind : goal.bounds-code-behind
bounds-code-behind c = let g = stepping-start c.args.code.now c.args.sub.now c.args.regs.now c.args.work.now c.args.m c.args.left c.requires.by_index in
    let k = c.close_group-closed in
    let e = k.ensures c.args.sub.now in
    let live = live-closed c.args.code.now c.args.sub.now c.args.regs.now c.args.work.now k.new.regs k.new.work c.args.m k.result e in
    let h = stepping-node g 4 c.requires.pc_value.1 c.requires.pc_value.0 (omega arith) (omega (arith, c.requires.pc_value.2)) k.new.regs k.new.work k.result e k.auto.regs k.auto.work in
    (stepping-fits h live).here

pub returns-then-code-behind-ne-AGAIN : goal.returns-then-code-behind-ne-AGAIN
returns-then-code-behind-ne-AGAIN c = let g = stepping-start c.args.code.now c.args.sub.now c.args.regs.now c.args.work.now c.args.m c.args.left c.requires.by_index in
    let k = c.close_group-closed in
    let e = k.ensures c.args.sub.now in
    let live = live-closed c.args.code.now c.args.sub.now c.args.regs.now c.args.work.now k.new.regs k.new.work c.args.m k.result e in
    let h = stepping-node g 4 c.requires.pc_value.1 c.requires.pc_value.0 (omega arith) (omega (arith, c.requires.pc_value.2)) k.new.regs k.new.work k.result e k.auto.regs k.auto.work in
    (omega (arith, c.requires.pc_value.2), h.leads)

pub end_round-ended-requires : goal.end_round-ended-requires
end_round-ended-requires c = let g = stepping-start c.args.code.now c.args.sub.now c.args.regs.now c.args.work.now c.args.m c.args.left c.requires.by_index in
    let k = c.close_group-closed in
    let e = k.ensures c.args.sub.now in
    let live = live-closed c.args.code.now c.args.sub.now c.args.regs.now c.args.work.now k.new.regs k.new.work c.args.m k.result e in
    let h = stepping-node g 4 c.requires.pc_value.1 c.requires.pc_value.0 (omega arith) (omega (arith, c.requires.pc_value.2)) k.new.regs k.new.work k.result e k.auto.regs k.auto.work in
    let r = fits-at c.args.code.now k.result.pc 8 c.if-code-behind-ne-AGAIN.false (stepping-fits h live) in
    omega (arith, r.0, r.1, stepping-low h live, k.auto.regs, c.requires.pc_value.2, c.requires.pc_value.3, c.requires.pc_value.4)

pub bounds-code-next : goal.bounds-code-next
bounds-code-next c = let g = stepping-start c.args.code.now c.args.sub.now c.args.regs.now c.args.work.now c.args.m c.args.left c.requires.by_index in
    let k = c.close_group-closed in
    let e = k.ensures c.args.sub.now in
    let live = live-closed c.args.code.now c.args.sub.now c.args.regs.now c.args.work.now k.new.regs k.new.work c.args.m k.result e in
    let h = stepping-node g 4 c.requires.pc_value.1 c.requires.pc_value.0 (omega arith) (omega (arith, c.requires.pc_value.2)) k.new.regs k.new.work k.result e k.auto.regs k.auto.work in
    let j = c.end_round-ended in
    let f = j.ensures c.args.sub.now in
    let live2 = live-ended c.args.code.now c.args.sub.now k.new.regs k.new.work j.new.regs j.new.work k.result j.result f in
    let i = stepping-two (stepping-node h 8 live c.if-code-behind-ne-AGAIN.false (omega arith) (omega (arith, c.requires.pc_value.2)) j.new.regs j.new.work j.result f j.auto.regs j.auto.work) in
    (stepping-fits i live2).here

pub returns-then-code-next-ne-OPEN : goal.returns-then-code-next-ne-OPEN
returns-then-code-next-ne-OPEN c = let g = stepping-start c.args.code.now c.args.sub.now c.args.regs.now c.args.work.now c.args.m c.args.left c.requires.by_index in
    let k = c.close_group-closed in
    let e = k.ensures c.args.sub.now in
    let live = live-closed c.args.code.now c.args.sub.now c.args.regs.now c.args.work.now k.new.regs k.new.work c.args.m k.result e in
    let h = stepping-node g 4 c.requires.pc_value.1 c.requires.pc_value.0 (omega arith) (omega (arith, c.requires.pc_value.2)) k.new.regs k.new.work k.result e k.auto.regs k.auto.work in
    let j = c.end_round-ended in
    let f = j.ensures c.args.sub.now in
    let live2 = live-ended c.args.code.now c.args.sub.now k.new.regs k.new.work j.new.regs j.new.work k.result j.result f in
    let i = stepping-two (stepping-node h 8 live c.if-code-behind-ne-AGAIN.false (omega arith) (omega (arith, c.requires.pc_value.2)) j.new.regs j.new.work j.result f j.auto.regs j.auto.work) in
    (omega (arith, c.requires.pc_value.2), i.leads)

pub open_group-opened-requires : goal.open_group-opened-requires
open_group-opened-requires c = let g = stepping-start c.args.code.now c.args.sub.now c.args.regs.now c.args.work.now c.args.m c.args.left c.requires.by_index in
    let k = c.close_group-closed in
    let e = k.ensures c.args.sub.now in
    let live = live-closed c.args.code.now c.args.sub.now c.args.regs.now c.args.work.now k.new.regs k.new.work c.args.m k.result e in
    let h = stepping-node g 4 c.requires.pc_value.1 c.requires.pc_value.0 (omega arith) (omega (arith, c.requires.pc_value.2)) k.new.regs k.new.work k.result e k.auto.regs k.auto.work in
    let j = c.end_round-ended in
    let f = j.ensures c.args.sub.now in
    let live2 = live-ended c.args.code.now c.args.sub.now k.new.regs k.new.work j.new.regs j.new.work k.result j.result f in
    let i = stepping-two (stepping-node h 8 live c.if-code-behind-ne-AGAIN.false (omega arith) (omega (arith, c.requires.pc_value.2)) j.new.regs j.new.work j.result f j.auto.regs j.auto.work) in
    let r = fits-at c.args.code.now j.result.pc 3 c.if-code-next-ne-OPEN.false (stepping-fits i live2) in
    omega (arith, r.0, r.1, stepping-low i live2, k.auto.regs, j.auto.regs, c.requires.pc_value.2, c.requires.pc_value.3)

pub overflow_sub-three_less : goal.overflow_sub-three_less
overflow_sub-three_less c = omega (arith, c.requires.pc_value.2)

pub returns : goal.returns
returns c = let g = stepping-start c.args.code.now c.args.sub.now c.args.regs.now c.args.work.now c.args.m c.args.left c.requires.by_index in
    let k = c.close_group-closed in
    let e = k.ensures c.args.sub.now in
    let live = live-closed c.args.code.now c.args.sub.now c.args.regs.now c.args.work.now k.new.regs k.new.work c.args.m k.result e in
    let h = stepping-node g 4 c.requires.pc_value.1 c.requires.pc_value.0 (omega arith) (omega (arith, c.requires.pc_value.2)) k.new.regs k.new.work k.result e k.auto.regs k.auto.work in
    let j = c.end_round-ended in
    let f = j.ensures c.args.sub.now in
    let live2 = live-ended c.args.code.now c.args.sub.now k.new.regs k.new.work j.new.regs j.new.work k.result j.result f in
    let i = stepping-two (stepping-node h 8 live c.if-code-behind-ne-AGAIN.false (omega arith) (omega (arith, c.requires.pc_value.2)) j.new.regs j.new.work j.result f j.auto.regs j.auto.work) in
    let o = c.open_group-opened in
    let w = stepping-three (stepping-node i 3 live2 c.if-code-next-ne-OPEN.false (omega arith) (omega (arith, c.requires.pc_value.2)) o.new.regs o.new.work o.result (o.ensures c.args.sub.now) o.auto.regs o.auto.work) in
    (omega (arith, c.requires.pc_value.2), w.leads)
