-- `own_idle` meets its contract, test by test.
use borrow.Author.Tests.{ne_eqb}
use Rattle.syntax.specs.Limits.{unset}
use Rattle.lengths.specs.Measures.{idle_at}
use Rattle.lengths.proofs.own_idle.Goals as goal
use Rattle.lengths.proofs.own_idle.Goals.{else-area-p-via-then-area-p+else-body-eq0, else-area-p-via-else-area-p}

pub returns-then-body-eq0 : goal.returns-then-body-eq0
unfolding idle_at unset
returns-then-body-eq0 c = rw (c.if-area-p.true, c.if-body-eq0.true, c.word.ensures.0)

pub returns : goal.returns
unfolding idle_at unset
returns c = elim c.else-area-p.branch [ else-area-p-via-then-area-p+else-body-eq0 w ↦ rw (w.if-area-p.true, ne_eqb _ 0 w.if-body-eq0.false) | else-area-p-via-else-area-p w ↦ rw (ne_eqb _ 4294967295 w.if-area-p.false) ]
