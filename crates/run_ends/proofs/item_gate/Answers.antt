-- `item_gate` meets its contract: by the kind of the node, its numbers are in range as tested, and it fails where no byte of its set stands.
use Prim.Native.Nat.{◌+◌}
use native.Mathlib.Omega.{arith}
use Rattle.machine.specs.Laws.Ends.{asks-byte, asks-run}
use Rattle.run_ends.proofs.item_gate.Goals as goal

pub returns-then-code-pc : goal.returns-then-code-pc
returns-then-code-pc c = tt

pub returns-then-kind-eq-BYTE : goal.returns-then-kind-eq-BYTE
returns-then-kind-eq-BYTE c = (omega arith, omega arith, omega arith, λ sub. asks-byte c.args.code.now sub c.args.pc c.if-kind-eq-BYTE.true)

pub overflow_cast-body : goal.overflow_cast-body
overflow_cast-body c = omega (arith, c.type_inv.code (c.args.pc + 6))

pub overflow_add-body-then-code-pc-gt0-2 : goal.overflow_add-body-then-code-pc-gt0-2
overflow_add-body-then-code-pc-gt0-2 c = omega (arith, c.type_inv.code (c.args.pc + 6))

pub returns-then-body-code : goal.returns-then-body-code
returns-then-body-code c = (omega arith, omega arith, omega arith, λ sub. asks-run c.args.code.now sub c.args.pc c.if-kind-eq-RUN.true c.if-code-pc-gt0.true c.if-code-pc-gt0-2.true)

pub returns-else-body-code : goal.returns-else-body-code
returns-else-body-code c = tt

pub returns-else-code-pc-gt0-2 : goal.returns-else-code-pc-gt0-2
returns-else-code-pc-gt0-2 c = tt

pub returns-else-code-pc-gt0 : goal.returns-else-code-pc-gt0
returns-else-code-pc-gt0 c = tt

pub returns-else-kind-eq-RUN : goal.returns-else-kind-eq-RUN
returns-else-kind-eq-RUN c = tt
