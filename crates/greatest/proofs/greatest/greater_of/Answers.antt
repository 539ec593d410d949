-- Each return is one case of `greater`.
use native.Mathlib.Omega.{arith}
use Rattle.greatest.specs.Laws.Best.{greater-one, no_greater}
use Rattle.greatest.proofs.greatest.greater_of.Goals as goal

pub returns-then-most-more : goal.returns-then-most-more
returns-then-most-more c by e f = greater-one by _ _ (omega (arith, e, f, c.if-most-more.true))

pub returns : goal.returns
returns c by e f = no_greater by _ _ (omega (arith, e, f, c.if-most-more.false))
