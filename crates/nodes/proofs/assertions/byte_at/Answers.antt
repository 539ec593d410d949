-- `byte_at` meets its contract: within the subject the default of `byte` does not matter, and past its end it is 256.
use native.Mathlib.Omega.{arith}
use Rattle.machine.specs.Laws.Extent.{byte-in}
use Rattle.nodes.proofs.Tests.{byte_past}
use Rattle.nodes.proofs.assertions.byte_at.Goals as goal

pub overflow_cast-result : goal.overflow_cast-result
overflow_cast-result c = omega (arith, c.type_inv.sub c.args.at)

pub returns-then-at-sub : goal.returns-then-at-sub
returns-then-at-sub c = byte-in c.args.sub.now c.args.at c.if-at-sub.true

pub returns : goal.returns
returns c = byte_past c.args.sub.now _ c.if-at-sub.false
