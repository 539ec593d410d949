-- `take_byte` meets its contract: the byte is there and in the set, or not.
use mathlib.Core.Path.{sym, ◌∙◌}
use Rattle.turns.proofs.Turning.{byte-taken, byte-missed}
use Rattle.turns.proofs.items.take_byte.Goals as goal

pub returns-then-byte_holds : goal.returns-then-byte_holds
returns-then-byte_holds c = (λ regs choices. byte-taken c.args.code.now c.args.sub.now c.args.pc c.args.at regs _ (sym c.byte_holds.ensures ∙ c.if-byte_holds.true))

pub returns : goal.returns
returns c = (λ regs choices. byte-missed c.args.code.now c.args.sub.now c.args.pc c.args.at regs _ (sym c.byte_holds.ensures ∙ c.if-byte_holds.false))
