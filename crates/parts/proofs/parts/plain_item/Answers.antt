-- `\R`, or any other item: one law for each return.
use mathlib.Core.Path.{sym, ◌∙◌}
use Rattle.parts.proofs.Items.{plain-break, plain-atom}
use Rattle.parts.proofs.parts.plain_item.Goals as goal

pub returns-then-breaks_line : goal.returns-then-breaks_line
returns-then-breaks_line c = let a = c.args in
    rw c.step.ensures (plain-break a.rule.now a.flags a.so_far.node c.requires.0 (sym c.breaks_line.ensures ∙ c.if-breaks_line.true) c.put_three.ensures)

pub returns : goal.returns
returns c = let a = c.args in
    plain-atom a.rule.now a.so_far.cursor a.flags a.so_far.node c.item.result (sym c.breaks_line.ensures ∙ c.if-breaks_line.false) c.item.ensures
