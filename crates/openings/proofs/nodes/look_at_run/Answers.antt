-- `look_at_run` meets its contract: each answer is the law of a run that takes no byte.
use Prim.Native.Nat.{◌+◌}
use native.Mathlib.Omega.{arith}
use Rattle.openings.specs.Laws.Nodes.{sees-run-owed, sees-run-none, sees-run}
use Rattle.openings.proofs.nodes.look_at_run.Goals as goal

pub overflow_cast-body : goal.overflow_cast-body
overflow_cast-body c = omega (arith, c.type_inv.code (c.args.pc + 6))

pub overflow_add-body-2 : goal.overflow_add-body-2
overflow_add-body-2 c = omega (arith, c.type_inv.code (c.args.pc + 6))

pub returns-then-most-eq0 : goal.returns-then-most-eq0
returns-then-most-eq0 c = sees-run-none c.args.code.now c.args.pc c.requires.1 (omega arith) c.if-most-eq0.true

pub returns-then-least-gt0-2 : goal.returns-then-least-gt0-2
returns-then-least-gt0-2 c = (omega arith, sees-run-owed c.args.code.now c.args.pc c.requires.1 c.if-least-gt0-2.true c.if-most-eq0.false)

pub returns : goal.returns
returns c = (omega arith, sees-run c.args.code.now c.args.pc c.requires.1 (omega arith) c.if-most-eq0.false)
