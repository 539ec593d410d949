-- The loop's invariant: the bytes passed are all 00.
use mathlib.Core.Path.{ap, ◌∙◌}
use Prim.Native.Nat.{ℕ}
use native.Mathlib.Omega.{arith}
use lib.ListN.{get_or}
use Rattle.card_format.specs.Places.{place}
use Rattle.card_format.proofs.Laws.Written.{place_is}
use Rattle.card_records.specs.Laws.Checking.{zero_more}
use Rattle.card_records.proofs.scanning.is_padding.Goals as goal

pub loop-i-init : goal.loop-i-init
loop-i-init c = (omega arith, omega arith, λ j l u. absurd (omega arith))

pub bounds-card-i : goal.bounds-card-i
unfolding place
bounds-card-i c = omega (arith, c.requires.2 c.loop-i.i (omega arith))

pub returns-then-card-i-ne0 : goal.returns-then-card-i-ne0
returns-then-card-i-ne0 c = (c.loop-i.i, c.loop-i.invariant.0, omega arith, λ e. c.if-card-i-ne0.true (ap (λ (n : ℕ). get_or c.args.card.now n 0) (place_is c.loop-i.i) ∙ e))

pub loop-i-preserved : goal.loop-i-preserved
loop-i-preserved c = (omega arith, omega arith, zero_more c.args.card.now c.args.from c.loop-i.i c.loop-i.invariant.2 c.if-card-i-ne0.false)

pub returns : goal.returns
returns c = λ j l u. c.loop-i.invariant.2 j l (omega arith)
