-- What group opens: behind a `?` by the next byte, which `marked` reads, and else one law for each return.
use Rattle.syntax.specs.Limits.{group_limit}
use Rattle.brackets.proofs.Heads.{bracket-capture, capture-too-many}
use Rattle.brackets.proofs.openings.bracket.Goals as goal

pub returns-then-peek-eq-QUESTION : goal.returns-then-peek-eq-QUESTION
returns-then-peek-eq-QUESTION c = c.marked.ensures _ (rw c.if-peek-eq-QUESTION.true at c.peek.ensures) c.peek-then-peek-eq-QUESTION.ensures

pub returns-then-opened-lt-GROUP_LIMIT : goal.returns-then-opened-lt-GROUP_LIMIT
unfolding group_limit
returns-then-opened-lt-GROUP_LIMIT c = bracket-capture c.args.opened c.peek.ensures c.requires.0 c.if-peek-eq-QUESTION.false c.if-opened-lt-GROUP_LIMIT.true

pub returns : goal.returns
unfolding group_limit
returns c = rw c.at.ensures (capture-too-many c.args.opened c.peek.ensures c.requires.0 c.if-peek-eq-QUESTION.false c.if-opened-lt-GROUP_LIMIT.false)
