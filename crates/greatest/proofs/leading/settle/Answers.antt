-- Each return is one case of `settled`.
use native.Mathlib.Omega.{arith}
use Rattle.greatest.specs.Laws.Leading.{settle-none, settle-first, settle-later, settle-here}
use Rattle.greatest.proofs.leading.settle.Goals as goal

pub returns-in_default : goal.returns-in_default
returns-in_default c = λ start. settle-none start _ _ _ (omega (arith, c.in_default.ensures))

pub returns-in-Some-kept : goal.returns-in-Some-kept
returns-in-Some-kept c = λ start. rw c.in-Some-kept.is (settle-later start _ _ _ (omega (arith, c.in-Some.ensures)) c.in-Some-kept.later c.if-at-later.true)

pub returns-in_default-kept : goal.returns-in_default-kept
returns-in_default-kept c = λ start. rw c.in-Some-kept.is (settle-here start _ _ _ (omega (arith, c.in-Some.ensures)) c.in-Some-kept.later c.if-at-later.false)

pub returns-in_default-kept-2 : goal.returns-in_default-kept-2
returns-in_default-kept-2 c = λ start. rw c.in_default-kept.is (settle-first start _ _ _ (omega (arith, c.in-Some.ensures)))
