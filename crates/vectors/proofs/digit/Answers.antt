-- `digit` meets its contract: each way through the ranges settles the definition's two tests.
use mathlib.Core.Path.{sym}
use mathlib.Core.Logic.{inl, inr}
use native.Mathlib.Omega.{arith}
use Rattle.vectors.specs.Laws.Digits.{digit-decimal, digit-letter, no_digit}
use Rattle.vectors.proofs.digit.Goals as goal

pub returns-in-48-to-57 : goal.returns-in-48-to-57
returns-in-48-to-57 c = sym (digit-decimal _ (omega arith) (omega arith))

pub returns-in-97-to-102 : goal.returns-in-97-to-102
returns-in-97-to-102 c = omega (arith, digit-letter c.args.b (omega arith) (omega arith))

pub returns-in_default : goal.returns-in_default
returns-in_default c = sym (no_digit _ (inl (omega arith)) (inl (omega arith)))

pub returns-in_default-2 : goal.returns-in_default-2
returns-in_default-2 c = sym (no_digit _ (inr (omega arith)) (inl (omega arith)))

pub returns-in_default-3 : goal.returns-in_default-3
returns-in_default-3 c = sym (no_digit _ (inr (omega arith)) (inr (omega arith)))
