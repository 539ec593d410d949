-- `change` meets its contract: where the number stands there already, writing it changes nothing.
use mathlib.Core.Path.{sym}
use lib.Seq.{set-get_or}
use Rattle.batch_lines.proofs.line_parts.change.Goals as goal

pub returns-then-numbers-i : goal.returns-then-numbers-i
returns-then-numbers-i c = rw (← c.if-numbers-i.true) (sym (set-get_or c.args.numbers.now c.args.i 0))
