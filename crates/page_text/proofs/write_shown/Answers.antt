-- The loop's invariant: the bytes so far are written, as they are shown, and took sixteen bytes each at most.
use mathlib.Core.Path.{refl}
use native.Mathlib.Omega.{arith}
use Rattle.page_text.proofs.Laws.Writing.{wrote_none, wrote_more, wrote_all}
use Rattle.page_text.proofs.write_shown.Goals as goal

pub loop-b-init : goal.loop-b-init
loop-b-init c = let a = c.args in (refl, omega arith, wrote_none a.text.now a.out.now a.at)

pub loop-b-preserved : goal.loop-b-preserved
loop-b-preserved c = let a = c.args in
    let l = c.loop-b in
    let w = c.write_byte-end.ensures in
    (omega arith, omega (arith, w.near), wrote_more a.text.now l.b-index (omega arith) (omega arith) l.invariant.2 w)

pub shape_of-out : goal.shape_of-out
shape_of-out c = c.loop-b.invariant.0

pub returns : goal.returns
returns c = let a = c.args in
    let l = c.loop-b in
    record { wrote = wrote_all a.text.now l.b-index (omega arith) l.invariant.2; near = omega arith }
