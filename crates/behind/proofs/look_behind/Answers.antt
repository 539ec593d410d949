-- `look_behind` meets its contract: where the byte behind the group is not there, the two nodes fail one after the other; the node behind it is in range.
use mathlib.Core.Path.{sym, ◌∙◌}
use Prim.Native.Nat.{◌+◌}
use native.Mathlib.Omega.{arith}
use lib.ListN.{get_or, drop}
use Rattle.charset.specs.Class.{has}
use Rattle.machine.specs.Laws.Code.{fits-at}
use Rattle.machine.specs.Laws.Ends.{asks-byte, asks-close}
use Rattle.machine.specs.Laws.Extent.{takes-here, takes-past}
use Rattle.behind.proofs.look_behind.Goals as goal

pub returns-then-sub-at : goal.returns-then-sub-at
returns-then-sub-at c = let p = c.args.code.now in
    let b = get_or p (c.args.m.pc + 1) 0 in
    let f = has (drop (b + 3) p) in
    (omega arith, omega arith, λ st. asks-close p c.args.sub.now c.args.m.pc 1 f c.requires.pc_in_bounds.1 (asks-byte p c.args.sub.now b c.if-code-behind-ne-BYTE.false) c.args.m.at c.args.regs.now st (takes-past c.args.sub.now f c.args.m.at c.if-sub-at.true))

pub contains-requires : goal.contains-requires
contains-requires c = let b = get_or c.args.code.now (c.args.m.pc + 1) 0 in
    omega (arith, fits-at c.args.code.now b 0 c.if-code-behind-ne-BYTE.false c.requires.fits)

pub returns-then-contains : goal.returns-then-contains
returns-then-contains c = c.if-code-behind-ne-BYTE.false

pub returns : goal.returns
returns c = let p = c.args.code.now in
    let b = get_or p (c.args.m.pc + 1) 0 in
    let f = has (drop (b + 3) p) in
    let none = takes-here c.args.sub.now f c.args.m.at (omega (arith, c.if-sub-at.false)) ∙ sym c.contains.ensures ∙ c.if-contains.false in
    (omega arith, omega arith, λ st. asks-close p c.args.sub.now c.args.m.pc 1 f c.requires.pc_in_bounds.1 (asks-byte p c.args.sub.now b c.if-code-behind-ne-BYTE.false) c.args.m.at c.args.regs.now st none)
