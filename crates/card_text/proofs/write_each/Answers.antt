-- The loop's invariant: what stands for the bytes so far is written, and took four bytes each at most.
use mathlib.Core.Path.{refl}
use native.Mathlib.Omega.{arith}
use Rattle.card_text.specs.Laws.Writing.{wrote_none, wrote_more, wrote_all}
use Rattle.card_text.proofs.write_each.Goals as goal

pub loop-b-init : goal.loop-b-init
loop-b-init c = let a = c.args in (refl, omega arith, wrote_none a.under a.rule.now a.out.now a.at)

pub loop-b-preserved : goal.loop-b-preserved
loop-b-preserved c = let a = c.args in
    let l = c.loop-b in
    let w = c.write_one-end.ensures in
    (omega arith, omega (arith, w.near), wrote_more a.under a.rule.now l.b-index (omega arith) (omega arith) l.invariant.2 w)

pub shape_of-out : goal.shape_of-out
shape_of-out c = c.loop-b.invariant.0

pub returns : goal.returns
returns c = let a = c.args in
    let l = c.loop-b in
    record { wrote = wrote_all a.under a.rule.now l.b-index (omega arith) l.invariant.2; near = omega arith }
