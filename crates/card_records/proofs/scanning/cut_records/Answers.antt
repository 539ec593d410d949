-- The loop's invariant: whole records stand before the position, so many, and whether they are in order so far is known. Each test then tells how the card
-- ends, or that one more record is whole.
use mathlib.Core.Logic.{inl, inr}
use mathlib.Core.Path.{refl, sym, ◌∙◌}
use native.Mathlib.Omega.{arith}
use Rattle.card_records.specs.Laws.Walking.{walked_start, walked_none, walked-unknown, walked-short, walked-ends, walked_on}
use Rattle.card_records.proofs.scanning.cut_records.Goals as goal

pub loop-at-init : goal.loop-at-init
loop-at-init c = (omega arith, omega arith, walked_start _)

pub returns-then-body-eq0 : goal.returns-then-body-eq0
returns-then-body-eq0 c = inl (refl, walked-unknown c.loop-at.invariant.2 (omega arith) (sym c.body_length-body.ensures ∙ c.if-body-eq0.true))

pub returns-then-card-at : goal.returns-then-card-at
returns-then-card-at c = inr (refl, walked-short c.loop-at.invariant.2 (omega arith) (λ e. c.if-body-eq0.false (c.body_length-body.ensures ∙ e)) (omega arith))

pub returns-then-kind-eq-LENGTH_KIND : goal.returns-then-kind-eq-LENGTH_KIND
returns-then-kind-eq-LENGTH_KIND c = walked-ends c.loop-at.invariant.2 (omega arith) c.if-kind-eq-LENGTH_KIND.true (omega arith)

pub loop-at-preserved : goal.loop-at-preserved
loop-at-preserved c = (
  omega arith,
  omega arith,
  rw (c.body_length-body.ensures, c.goes_on-ordered.ensures) (walked_on c.loop-at.invariant.2 (omega arith) (λ e. c.if-body-eq0.false (c.body_length-body.ensures ∙ e)) (omega arith) c.if-kind-eq-LENGTH_KIND.false),
)

pub returns : goal.returns
returns c = inr (refl, walked_none c.loop-at.invariant.2 (omega arith))
