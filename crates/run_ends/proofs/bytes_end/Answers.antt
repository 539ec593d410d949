-- `bytes_end` meets its contract. The loop's invariant: from here on the bytes end where they end from the start. The measure is what is left
-- before the stop.
use mathlib.Core.Path.{◌≡◌, refl, sym, ◌∙◌}
use native.Mathlib.Omega.{arith}
use Rattle.charset.specs.Class.{has}
use Rattle.machine.specs.Laws.Extent.{takes-here}
use Rattle.run_ends.proofs.Bytes.{turn_on, turn-off, turn-past}
use Rattle.run_ends.proofs.bytes_end.Goals as goal

pub returns-then-not-contains : goal.returns-then-not-contains
returns-then-not-contains c = let f = has c.args.class.now in
    sym (turn-off c.args.sub.now f c.loop-i.i c.args.stop (takes-here c.args.sub.now f c.loop-i.i (omega arith) ∙ sym c.contains.ensures ∙ c.if-not-contains.true)) ∙ c.loop-i.invariant.1

pub loop-i-init : goal.loop-i-init
loop-i-init c = (omega arith, refl)

pub loop-i-preserved : goal.loop-i-preserved
loop-i-preserved c = let f = has c.args.class.now in
    (omega (arith, c.loop-i-test.true), sym (turn_on c.args.sub.now f c.loop-i.i c.args.stop c.loop-i-test.true (takes-here c.args.sub.now f c.loop-i.i (omega arith) ∙ sym c.contains.ensures ∙ c.if-not-contains.false)) ∙ c.loop-i.invariant.1)

pub returns : goal.returns
returns c =
    let e : c.max.result ≡ c.loop-i.i = omega (arith, c.max.ensures, c.loop-i-test.false, c.loop-i.invariant.0) in
    e ∙ sym (turn-past _ _ _ _ c.loop-i-test.false) ∙ c.loop-i.invariant.1
