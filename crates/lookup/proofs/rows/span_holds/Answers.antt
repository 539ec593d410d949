-- By cases on the tests.
use mathlib.Core.Path.{sym, ◌∙◌}
use borrow.Author.Tests.{le-leb, lt-leb}
use Rattle.lookup.specs.Rows.{span_holds}
use Rattle.lookup.proofs.rows.span_holds.Goals as goal

pub returns-then-is_unset : goal.returns-then-is_unset
unfolding span_holds
returns-then-is_unset c = rw (sym c.is_unset.ensures ∙ c.if-is_unset.true)

pub returns-then-to-from : goal.returns-then-to-from
unfolding span_holds
returns-then-to-from c = rw (sym c.is_unset.ensures ∙ c.if-is_unset.false, lt-leb _ _ c.if-to-from.true)

pub returns : goal.returns
unfolding span_holds
returns c = rw (sym c.is_unset.ensures ∙ c.if-is_unset.false, le-leb _ _ c.if-to-from.false)
