-- The loop's invariant: if the bytes are a card whose rule is so long, the first i bytes of that rule stand at the front, and behind them what stood there.
use mathlib.Core.Path.{refl, ◌∙◌}
use native.Mathlib.Omega.{arith}
use lib.ListN.{length-set}
use Rattle.card_format.proofs.Laws.Written.{place_inside, rule-there}
use Rattle.card_format.proofs.Laws.Filling.{filled_more, filled-all}
use Rattle.cards.proofs.reading.gather.Goals as goal

pub loop-i-init : goal.loop-i-init
loop-i-init c = (omega arith, refl, λ k e l. refl)

pub bounds-card-i : goal.bounds-card-i
bounds-card-i c = omega (arith, place_inside c.args.size c.loop-i.i (omega arith))

pub loop-i-preserved : goal.loop-i-preserved
loop-i-preserved c = (
  omega arith,
  simp length-set c.loop-i.invariant.1,
  λ k e l. filled_more k.rule c.args.area.now c.loop-i.area c.loop-i.i _ (omega arith) (omega arith) (c.loop-i.invariant.2 k e l) (rule-there k c.args.card.now c.loop-i.i e (omega arith)),
)

pub shape_of-area : goal.shape_of-area
shape_of-area c = c.loop-i.invariant.1

pub returns : goal.returns
returns c = λ k e l. c.loop-i.invariant.2 k e l ∙ filled-all k.rule c.args.area.now c.loop-i.i (omega arith)
