-- `skip_blanks` meets its contract. The loop's invariant: what is skipped from `from` on ends where what is skipped from `i` on does.
use mathlib.Core.Path.{refl, sym, ◌∙◌}
use native.Mathlib.Omega.{arith}
use Rattle.lexemes.proofs.BlankCases.{blanks-stop, blanks-on, blanks-end}
use Rattle.lexemes.proofs.blanks.skip_blanks.Goals as goal

pub returns-then-ends_blanks : goal.returns-then-ends_blanks
returns-then-ends_blanks c = sym (c.loop-i.invariant.0 ∙ blanks-stop _ _ _ c.loop-i-test.true (sym c.ends_blanks.ensures ∙ c.if-ends_blanks.true))

pub loop-i-preserved : goal.loop-i-preserved
loop-i-preserved c = (c.loop-i.invariant.0 ∙ blanks-on _ _ _ c.loop-i-test.true (sym c.ends_blanks.ensures ∙ c.if-ends_blanks.false) ∙ rw c.comment_after-comment.ensures, omega arith)

pub returns : goal.returns
returns c = let e = c.loop-i.invariant.0 ∙ blanks-end _ _ _ c.loop-i-test.false in omega (arith, c.loop-i.auto.i, c.loop-i.invariant.1, c.max.ensures)

pub loop-i-init : goal.loop-i-init
loop-i-init c = (refl, omega arith)
