-- The loop's invariant: none that is marked before i has the text.
use native.Mathlib.Omega.{arith}
use native.Mathlib.Numerals.{add-one}
use Rattle.reasons.specs.Marks.{Decides}
use Rattle.reasons.specs.Laws.Decides.{is-so, is-not}
use Rattle.reasons.specs.Laws.Marks.{none_said, said-further, unsaid-up-to}
use Rattle.reasons.proofs.marks.is_said.Goals as goal

pub loop-i-init : goal.loop-i-init
loop-i-init c = (omega arith, none_said _ _ _ _)

pub returns-then-says : goal.returns-then-says
unfolding Decides
returns-then-says c = record { at = c.loop-i.i; before = omega arith; says = is-so _ c.says.ensures c.if-says.true }

pub loop-i-preserved : goal.loop-i-preserved
loop-i-preserved c = (omega arith, rw (add-one c.loop-i.i) (said-further _ _ _ _ _ c.loop-i.invariant.1 (is-not _ c.says.ensures c.if-says.false)))

pub returns : goal.returns
unfolding Decides
returns c = unsaid-up-to _ _ _ _ _ _ c.loop-i.invariant.1 (omega arith)
