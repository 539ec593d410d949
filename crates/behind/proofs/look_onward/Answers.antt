-- `look_onward` meets its contract: a byte item whose byte is missing fails in a step, and of any other node nothing is said.
use mathlib.Core.Path.{sym, ◌∙◌}
use Prim.Native.Nat.{◌+◌}
use native.Mathlib.Omega.{arith}
use lib.ListN.{drop}
use Rattle.charset.specs.Class.{has}
use Rattle.machine.specs.Laws.Ends.{asks-byte}
use Rattle.machine.specs.Laws.Extent.{takes-here, takes-past}
use Rattle.behind.proofs.Vain.{lacks-byte}
use Rattle.behind.proofs.look_onward.Goals as goal

pub returns-then-sub-at : goal.returns-then-sub-at
returns-then-sub-at c = let f = has (drop (c.args.onward + 3) c.args.code.now) in
    λ regs st. asks-byte c.args.code.now c.args.sub.now c.args.onward c.if-code-onward-ne-BYTE.false c.args.at regs st (takes-past c.args.sub.now f c.args.at c.if-sub-at.true)

pub returns : goal.returns
returns c = let f = has (drop (c.args.onward + 3) c.args.code.now) in
    lacks-byte c.args.code.now c.args.sub.now c.args.onward c.args.at c.if-code-onward-ne-BYTE.false c.contains.result (takes-here c.args.sub.now f c.args.at (omega (arith, c.if-sub-at.false)) ∙ sym c.contains.ensures)
