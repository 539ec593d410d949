-- The end of a group: one law for each return.
use borrow.Author.Rules.{rules}
use Rattle.parts.proofs.Parentheses.{form-numbered, close-not, close-plain, close-group, close-held, close-ahead, close-not-ahead}
use Rattle.parts.proofs.parts.close.Goals as goal

pub returns-then-peek-ne-CLOSING : goal.returns-then-peek-ne-CLOSING
returns-then-peek-ne-CLOSING c = let a = c.args in
    rw c.at.ensures (close-not a.opening a.before a.inside.node c.requires.0 c.peek.ensures a.form c.if-peek-ne-CLOSING.true)

pub put_group-requires : goal.put_group-requires
put_group-requires c = let n = form-numbered c.in-Captured.is c.requires.1 in search rules

pub returns-in-Grouped : goal.returns-in-Grouped
returns-in-Grouped c = let a = c.args in
    rw (c.part.ensures, c.in-Grouped.is) (close-plain a.opening a.before a.inside.node c.requires.0 c.peek.ensures c.if-peek-ne-CLOSING.false c.put_three.ensures)

pub returns-in-Captured : goal.returns-in-Captured
returns-in-Captured c = let a = c.args in
    rw (c.part-in-Captured.ensures, c.in-Captured.is) (close-group a.opening a.before a.inside.node c.requires.0 c.peek.ensures c.if-peek-ne-CLOSING.false _ c.put_group.ensures)

pub returns-in-Held : goal.returns-in-Held
returns-in-Held c = let a = c.args in
    rw (c.part-in-Held.ensures, c.in-Held.is) (close-held a.opening a.before a.inside.node c.requires.0 c.peek.ensures c.if-peek-ne-CLOSING.false c.put_marked.ensures)

pub returns-in-Ahead : goal.returns-in-Ahead
returns-in-Ahead c = let a = c.args in
    rw (c.part-in-Ahead.ensures, c.in-Ahead.is) (close-ahead a.opening a.before a.inside.node c.requires.0 c.peek.ensures c.if-peek-ne-CLOSING.false c.put_marked-in-Ahead.ensures)

pub returns-in-NotAhead : goal.returns-in-NotAhead
returns-in-NotAhead c = let a = c.args in
    rw (c.part-in-NotAhead.ensures, c.in-NotAhead.is) (close-not-ahead a.opening a.before a.inside.node c.requires.0 c.peek.ensures c.if-peek-ne-CLOSING.false c.put_not_ahead.ensures)
