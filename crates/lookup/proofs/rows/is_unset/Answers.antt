-- By cases on the first number.
use borrow.Author.Tests.{eq-eqb, ne_eqb}
use Rattle.syntax.specs.Limits.{unset}
use Rattle.lookup.specs.Rows.{is_unset}
use Rattle.lookup.proofs.rows.is_unset.Goals as goal

pub returns-then-from-ne-UNSET : goal.returns-then-from-ne-UNSET
unfolding is_unset unset
returns-then-from-ne-UNSET c = rw (ne_eqb _ unset c.if-from-ne-UNSET.true)

pub returns : goal.returns
unfolding is_unset unset
returns c = rw (eq-eqb _ unset c.if-from-ne-UNSET.false)
