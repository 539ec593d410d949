-- `tell_missed` meets its contract: each arm tells what the node of its kind emits, and the others emit no failure.
use mathlib.Core.Path.{refl}
use native.Mathlib.Omega.{arith}
use Rattle.machine.specs.Laws.Code.{spans-in-registers, fits-at}
use Rattle.plain.proofs.Missing.{tells-byte, tells-assertion, tells-reference, tells_none}
use Rattle.plain.proofs.tell_missed.Goals as goal

pub refer-behind-requires : goal.refer-behind-requires
refer-behind-requires c = let f = fits-at c.args.code.now c.args.m.pc 11 c.in-11.is c.requires.fits in
    (f.0, f.1, omega (arith, spans-in-registers, c.requires.regs_len.0), c.requires.regs_len.1)

pub returns-in-0 : goal.returns-in-0
returns-in-0 c = tells-byte c.args.code.now c.args.sub.now c.args.regs.now c.args.m _ c.byte_holds-has_byte.result c.miss_unless.ensures c.in-0.is c.byte_holds-has_byte.ensures

pub returns-in-1 : goal.returns-in-1
returns-in-1 c = tells-assertion c.args.code.now c.args.sub.now c.args.regs.now c.args.m _ c.assertion_holds-holds.result c.miss_unless-in-1.ensures c.in-1.is c.assertion_holds-holds.ensures

pub returns-in-11 : goal.returns-in-11
returns-in-11 c = tells-reference c.args.code.now c.args.sub.now c.args.regs.now c.args.m _ c.is_some.result c.miss_unless-in-11.ensures c.in-11.is c.refer-behind.result c.is_some.ensures c.refer-behind.ensures

pub returns-in_default : goal.returns-in_default
returns-in_default c = let n = c.in_default.in_default-own.rest in
    tells_none c.args.code.now c.args.sub.now c.args.regs.now c.args.m _ n.0.0.0.0.1 n.0.0.0.1 n.0.0.1 n.0.1 n.1 refl
