-- `other_case` meets its contract: the arm that was taken tells the place of the byte among the letters, and a law for each place the rest.
use mathlib.Core.Path.{sym}
use native.Mathlib.Omega.{arith}
use Rattle.charset.specs.Laws.Cases.{other-before, other-upper, other-between, other-lower, other-behind}
use Rattle.nodes.proofs.references.other_case.Goals as goal

pub returns-in-65-to-90 : goal.returns-in-65-to-90
returns-in-65-to-90 c = sym (other-upper _ (omega (arith, c.in-65-to-90.if-b-lt65-own.false)) (omega (arith, c.in-65-to-90.if-b-lt91-own.true)))

pub returns-in-97-to-122 : goal.returns-in-97-to-122
returns-in-97-to-122 c = sym (other-lower _ (omega (arith, c.in-97-to-122.if-b-lt97-own.false)) (omega (arith, c.in-97-to-122.if-b-lt123-own.true)))

pub returns-in_default : goal.returns-in_default
returns-in_default c = sym (other-before _ (omega (arith, c.in_default.if-b-lt65-own.true)))

pub returns-in_default-2 : goal.returns-in_default-2
returns-in_default-2 c = sym (other-between _ (omega (arith, c.in_default.if-b-lt91-own.false)) (omega (arith, c.in_default.if-b-lt97-own.true)))

pub returns-in_default-3 : goal.returns-in_default-3
returns-in_default-3 c = sym (other-behind _ (omega (arith, c.in_default.if-b-lt123-own.false)))
