-- `byte_holds` meets its contract: a byte that is there is asked for in the class, and none is there past the end.
use mathlib.Core.Path.{sym, ◌∙◌}
use Rattle.machine.specs.Laws.Extent.{takes-here, takes-past}
use Rattle.nodes.proofs.byte_holds.Goals as goal

pub returns-then-at-sub : goal.returns-then-at-sub
returns-then-at-sub c = c.contains.ensures ∙ sym (takes-here c.args.sub.now _ c.args.at c.if-at-sub.true)

pub returns : goal.returns
returns c = sym (takes-past c.args.sub.now _ c.args.at c.if-at-sub.false)
