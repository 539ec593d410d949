-- `make_break` meets its contract: it has its bytes, or it is fallen back from.
use mathlib.Core.Path.{sym, ◌∙◌}
use native.Mathlib.Omega.{arith}
use Rattle.plain.proofs.Moving.{break-back, break-on}
use Rattle.plain.proofs.make_break.Goals as goal

pub returns-then-found-eq0 : goal.returns-then-found-eq0
returns-then-found-eq0 c = c.fall_back.ensures ∙ sym (break-back c.args.code.now c.args.sub.now c.args.regs.now c.args.work.now c.args.m c.requires.pc_value.0 c.break_at-found.result c.break_at-found.ensures c.if-found-eq0.true)

pub overflow_add-result : goal.overflow_add-result
overflow_add-result c = omega (arith, c.break_at-found.ensures.inside c.if-found-eq0.false, c.requires.pc_value.2)

pub returns : goal.returns
returns c = sym (break-on c.args.code.now c.args.sub.now c.args.regs.now c.args.work.now c.args.m c.requires.pc_value.0 c.break_at-found.result c.break_at-found.ensures c.if-found-eq0.false)
