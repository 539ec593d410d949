-- By what the sequence read so far ends with, and by whether the repeat is possessive: one law for each return.
use borrow.Author.Rules.{rules}
use mathlib.Core.Path.{refl}
use Rattle.parts.proofs.Items.{repeat-nothing, repeat-twice, repeat-once, repeat-kept}
use Rattle.parts.proofs.parts.repeated.Goals as goal

pub returns-in-Nothing : goal.returns-in-Nothing
returns-in-Nothing c = let a = c.args in
    rw c.at.ensures (repeat-nothing a.so_far.node a.so_far.kind a.least a.most a.greed a.keeps c.requires.0 c.in-Nothing.is)

pub returns-in-Repeated : goal.returns-in-Repeated
returns-in-Repeated c = let a = c.args in
    rw c.at-in-Repeated.ensures (repeat-twice a.so_far.node a.so_far.kind a.least a.most a.greed a.keeps c.requires.0 c.in-Repeated.is)

pub put_marked-requires : goal.put_marked-requires
put_marked-requires c = let l = c.requires.3 c.if-keeps.true in search rules

pub behind-requires : goal.behind-requires
behind-requires c = let l = c.requires.3 c.if-keeps.true in search rules

pub returns-then-keeps : goal.returns-then-keeps
returns-then-keeps c = let a = c.args in
    rw c.behind.ensures (repeat-kept a.so_far.node a.so_far.kind a.least a.most a.greed a.keeps c.requires.0 c.if-keeps.true (c.requires.3 c.if-keeps.true) c.in-Repeatable.is refl c.put_repeat.ensures c.put_marked.ensures)

pub returns-else-keeps : goal.returns-else-keeps
returns-else-keeps c = let a = c.args in
    rw c.step.ensures (repeat-once a.so_far.node a.so_far.kind a.least a.most a.greed a.keeps c.requires.0 c.requires.1 c.if-keeps.false c.in-Repeatable.is c.put_repeat-in-Repeatable.ensures)
