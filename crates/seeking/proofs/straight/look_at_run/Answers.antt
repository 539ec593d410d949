-- `look_at_run` meets its contract: a run that owes a round fails in two steps where no byte of its set stands.
use mathlib.Core.Path.{sym, ◌∙◌}
use Prim.Native.Nat.{◌+◌}
use native.Mathlib.Omega.{arith}
use lib.ListN.{get_or, drop}
use Rattle.charset.specs.Class.{has}
use Rattle.machine.specs.Laws.Extent.{takes-here, takes-past}
use Rattle.seeking.specs.Laws.Straight.{run-missed}
use Rattle.seeking.proofs.straight.look_at_run.Goals as goal

pub overflow_cast-body : goal.overflow_cast-body
overflow_cast-body c = omega (arith, c.type_inv.code (c.args.pc + 6))

pub overflow_add-body-2 : goal.overflow_add-body-2
overflow_add-body-2 c = omega (arith, c.type_inv.code (c.args.pc + 6))

pub returns-then-sub-i : goal.returns-then-sub-i
returns-then-sub-i c = (omega arith, run-missed c.args.code.now c.args.sub.now c.args.pc c.args.at c.requires.1 (omega (arith, c.if-code-pc-eq0.false)) (omega (arith, c.if-code-pc-eq0-2.false)) (takes-past c.args.sub.now (has (drop ((get_or c.args.code.now (c.args.pc + 6) 0) + 3) c.args.code.now)) c.args.at c.if-sub-i.true))

pub returns : goal.returns
returns c = (omega arith, run-missed c.args.code.now c.args.sub.now c.args.pc c.args.at c.requires.1 (omega (arith, c.if-code-pc-eq0.false)) (omega (arith, c.if-code-pc-eq0-2.false)) (takes-here c.args.sub.now (has (drop ((get_or c.args.code.now (c.args.pc + 6) 0) + 3) c.args.code.now)) c.args.at (omega (arith, c.if-sub-i.false)) ∙ sym c.contains.ensures ∙ c.if-contains.false))
