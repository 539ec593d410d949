-- `find_opening` meets its contract. The loop's invariant: the steps counted are at most two for each node looked at, and the search knows
-- what it should. The measure is how many nodes may yet be looked at.
use mathlib.Core.Logic.{inl, inr}
use native.Mathlib.Omega.{arith}
use Rattle.openings.specs.Laws.Searching.{told-all}
use Rattle.openings.proofs.finding.find_opening.Goals as goal

pub returns-then-starts-lt-FEW : goal.returns-then-starts-lt-FEW
returns-then-starts-lt-FEW c = inl c.nothing_known.ensures

pub loop-s-init : goal.loop-s-init
loop-s-init c = (omega (arith, c.begin-s.ensures.0), c.begin-s.ensures.1 c.args.code.now)

pub returns-then-left-eq0 : goal.returns-then-left-eq0
returns-then-left-eq0 c = inl c.nothing_known-then-left-eq0.ensures

pub turn-requires : goal.turn-requires
turn-requires c = (omega arith, c.loop-s.invariant.1.low, omega (arith, c.loop-s.invariant.0))

pub returns-in_default : goal.returns-in_default
returns-in_default c = inl c.nothing_known-in_default.ensures

pub loop-s-preserved : goal.loop-s-preserved
loop-s-preserved c = (omega (arith, c.loop-s.invariant.0, c.in-Some.ensures.few), c.in-Some.ensures.follows c.args.entry c.loop-s.invariant.1)

pub returns-then-s-budget : goal.returns-then-s-budget
returns-then-s-budget c = inl c.nothing_known-then-s-budget.ensures

pub returns-then-s-eq0 : goal.returns-then-s-eq0
returns-then-s-eq0 c = inl c.nothing_known-then-s-eq0.ensures

pub returns : goal.returns
returns c = inr (told-all c.args.code.now c.args.entry c.loop-s.s c.loop-s.invariant.1 c.args.budget (omega arith) (omega arith))
