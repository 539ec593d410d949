-- The loop's invariant: the end is that of the last item marked before i, and the first i signs are told.
use mathlib.Core.Path.{refl, ap, ◌∙◌}
use Prim.Native.Nat.{◌<◌}
use native.Mathlib.Omega.{arith}
use native.Mathlib.Numerals.{add-one}
use lib.ListN.{length, get_or, length-set}
use Rattle.reasons.specs.Marks.{end_after, last_end, sign_before, sign_under}
use Rattle.reasons.specs.Laws.Marks.{told_more}
use Rattle.reasons.proofs.marks.underline.Goals as goal

pub loop-i-init : goal.loop-i-init
unfolding last_end
loop-i-init c = (omega arith, refl, refl, λ j h. absurd (omega arith))

pub loop-i-preserved : goal.loop-i-preserved
unfolding last_end sign_under
loop-i-preserved c = let l = c.loop-i in
    let a = c.args in
    let fits : l.i < length l.out = omega arith in
    let e = c.end_after-end.ensures ∙ ap (end_after a.rule.now a.flags (get_or a.marks.now l.i 0) l.i) l.invariant.2 in (
      omega arith,
      simp length-set l.invariant.1,
      rw (add-one l.i) e,
      rw (add-one l.i) (told_more (sign_under a.rule.now a.flags a.marks.now) l.out l.i c.sign.result fits l.invariant.3 (c.sign.ensures ∙ ap (sign_before l.i) e)),
    )

pub shape_of-out : goal.shape_of-out
shape_of-out c = c.loop-i.invariant.1

pub returns : goal.returns
returns c = λ i h. c.loop-i.invariant.3 i (omega arith)
