-- `add_range` meets its contract: the loop has added the bytes from `low` on that are before `b`, and each turn adds `b`. It is left with no
-- turn where `high` is below `low`, and else after the turn at `high`.
use mathlib.Core.Path.{◌≡◌, ◌∙◌}
use native.Mathlib.Omega.{arith}
use Rattle.charset.specs.Class.{has}
use Rattle.charset.proofs.Range.{grow, next, none, start}
use Rattle.charset.proofs.add_range.Goals as goal

pub loop-b-init : goal.loop-b-init
loop-b-init c = (omega arith, omega arith, λ x h. start _ x _)

pub loop-b-preserved : goal.loop-b-preserved
loop-b-preserved c = let l = c.loop-b in
    let low = c.args.low in
    (omega arith, omega arith, λ x h. c.add-d.ensures x h ∙ rw (l.invariant.2 x h, grow low l.b x _ l.invariant.0, next low l.b x))

pub returns : goal.returns
returns c = let l = c.loop-b in
    let a = c.args in
    let e : l.b ≡ a.low = omega arith in
    λ x h. l.invariant.2 x h ∙ rw (e, ← start a.low x (has a.class x)) (none a.low a.high x _ (omega arith))

pub returns-2 : goal.returns-2
returns-2 c = let l = c.loop-b in
    let a = c.args in
    let e : a.high ≡ l.b = omega arith in
    λ x h. c.add-d.ensures x h ∙ rw (l.invariant.2 x h, e) (grow a.low l.b x _ l.invariant.0)
