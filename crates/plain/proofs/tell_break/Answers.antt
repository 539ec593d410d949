-- `tell_break` meets its contract: a return without a feed, whose steps are 7, or what a return tells.
use mathlib.Core.Path.{refl}
use native.Mathlib.Omega.{arith}
use Rattle.plain.proofs.Missing.{one_byte, tells-feed, tells-return}
use Rattle.plain.proofs.tell_break.Goals as goal

pub overflow_add-result : goal.overflow_add-result
overflow_add-result c = let y = c.break_at-found.ensures in
    let e = one_byte _ _ _ y c.if-found-eq7.true in
    omega (arith, e, y.inside (λ z. omega (arith, e, z)), c.requires.2)

pub returns-then-found-eq7 : goal.returns-then-found-eq7
returns-then-found-eq7 c = tells-feed c.args.code.now c.args.sub.now c.args.regs.now c.args.m _ c.requires.0 c.break_at-found.result c.break_at-found.ensures c.if-found-eq7.true refl

pub returns : goal.returns
returns c = tells-return c.args.code.now c.args.sub.now c.args.regs.now c.args.m _ c.requires.0 c.break_at-found.result c.break_at-found.ensures c.if-found-eq7.false c.miss_unless.ensures
