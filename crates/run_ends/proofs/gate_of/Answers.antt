-- `gate_of` meets its contract: any node but the end of a group has the gate of its own bytes; the end of a group has that of the node behind it, for a step more.
use Prim.Native.Nat.{◌+◌}
use native.Mathlib.Omega.{arith}
use lib.ListN.{drop}
use Rattle.charset.specs.Class.{has}
use Rattle.machine.specs.Laws.Code.{fits-at}
use Rattle.machine.specs.Laws.Ends.{asks-close}
use Rattle.run_ends.proofs.gate_of.Goals as goal

pub bounds-code-pc-2 : goal.bounds-code-pc-2
bounds-code-pc-2 c = omega (arith, (fits-at c.args.code.now c.args.pc 4 c.if-code-pc-ne-CLOSE.false c.requires.0).0)

pub overflow_cast-behind : goal.overflow_cast-behind
overflow_cast-behind c = omega (arith, c.type_inv.code (c.args.pc + 1))

pub item_gate-requires-2 : goal.item_gate-requires-2
item_gate-requires-2 c = (omega (arith, c.type_inv.code (c.args.pc + 1)), c.requires.1)

pub returns : goal.returns
returns c = let p = c.args.code.now in
    let gate = c.in_ok-gate.gate in
    let g = c.in_ok-gate.ensures in
    (omega arith, omega (arith, g.1), g.2, λ sub. asks-close p sub c.args.pc gate.cost (has (drop gate.base p)) c.if-code-pc-ne-CLOSE.false (g.3 sub))
