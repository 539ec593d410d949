-- The loop's invariant: from the first place up to i there is none.
use mathlib.Core.Path.{◌≡◌}
use native.Mathlib.Omega.{arith}
use lib.ListN.{length}
use native.Mathlib.Numerals.{add-one}
use Rattle.reasons.specs.Marks.{New}
use Rattle.reasons.specs.Laws.Decides.{is-so, is-not}
use Rattle.reasons.specs.Laws.Marks.{none-further}
use Rattle.reasons.proofs.marks.next_new.Goals as goal

pub loop-i-init : goal.loop-i-init
loop-i-init c = (omega arith, omega arith, λ j h l x. absurd (omega arith))

pub returns-then-is_new : goal.returns-then-is_new
returns-then-is_new c = record { onward = omega arith; within = omega arith; is_new = λ h. is-so _ c.is_new.ensures c.if-is_new.true; first = c.loop-i.invariant.2 }

pub loop-i-preserved : goal.loop-i-preserved
loop-i-preserved c = (omega arith, omega arith, rw (add-one c.loop-i.i) (none-further (New _ _ _) _ _ c.loop-i.invariant.2 (is-not _ c.is_new.ensures c.if-is_new.false)))

pub returns : goal.returns
returns c =
    let end : c.loop-i.i ≡ length c.args.rule.now = omega arith in
    record { onward = omega arith; within = omega arith; is_new = λ h. absurd (omega arith); first = rw end at c.loop-i.invariant.2 }
