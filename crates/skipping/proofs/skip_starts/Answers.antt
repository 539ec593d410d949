-- `skip_starts` meets its contract: nothing is passed, or all starts before the end if no byte can begin, or those whose bytes are not in the set.
use mathlib.Core.Path.{refl}
use mathlib.Core.Logic.{inl, inr}
use native.Mathlib.Omega.{arith}
use Rattle.skipping.proofs.Passing.{misses-then}
use Rattle.skipping.proofs.skip_starts.Goals as goal

pub returns-then-cost-eq0 : goal.returns-then-cost-eq0
returns-then-cost-eq0 c = record { on = omega arith; inside = inl refl; none = λ _. refl; missed = λ i l m. absurd (omega arith) }

pub returns-then-end-at : goal.returns-then-end-at
returns-then-end-at c = record { on = omega arith; inside = inl refl; none = λ _. refl; missed = λ i l m. absurd (omega arith) }

pub returns-then-not-any : goal.returns-then-not-any
returns-then-not-any c = record { on = omega arith; inside = inr (omega arith); none = λ e. absurd (c.if-cost-eq0.false e); missed = λ i l m. inl (c.if-not-any.true) }

pub returns : goal.returns
returns c = record { on = omega (arith, c.skip_fours-near.ensures.0, c.skip_ones.ensures.0); inside = inr c.skip_ones.ensures.1; none = λ e. absurd (c.if-cost-eq0.false e); missed = λ i l m. inr (misses-then c.args.set.now c.args.subject.now c.args.begin c.skip_fours-near.result c.skip_ones.result c.skip_fours-near.ensures.2 c.skip_ones.ensures.2 i l m) }
