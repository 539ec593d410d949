-- `look_at_byte` meets its contract: the byte is taken if it is there and in the set, and else the node fails.
use mathlib.Core.Path.{sym, ◌∙◌}
use Prim.Native.Nat.{◌+◌}
use native.Mathlib.Omega.{arith}
use lib.ListN.{drop}
use Rattle.charset.specs.Class.{has}
use Rattle.machine.specs.Laws.Extent.{takes-here, takes-past}
use Rattle.seeking.specs.Laws.Straight.{byte-missed, byte-taken}
use Rattle.seeking.proofs.straight.look_at_byte.Goals as goal

pub returns-then-sub-i : goal.returns-then-sub-i
returns-then-sub-i c = (omega arith, byte-missed c.args.code.now c.args.sub.now c.args.pc c.args.at c.requires.1 (takes-past c.args.sub.now (has (drop (c.args.pc + 3) c.args.code.now)) c.args.at c.if-sub-i.true))

pub returns-then-contains : goal.returns-then-contains
returns-then-contains c = byte-taken c.args.code.now c.args.sub.now c.args.pc c.args.at c.requires.1 (takes-here c.args.sub.now (has (drop (c.args.pc + 3) c.args.code.now)) c.args.at (omega (arith, c.if-sub-i.false)) ∙ sym c.contains.ensures ∙ c.if-contains.true)

pub returns : goal.returns
returns c = (omega arith, byte-missed c.args.code.now c.args.sub.now c.args.pc c.args.at c.requires.1 (takes-here c.args.sub.now (has (drop (c.args.pc + 3) c.args.code.now)) c.args.at (omega (arith, c.if-sub-i.false)) ∙ sym c.contains.ensures ∙ c.if-contains.false))
