-- `missed_ends` meets its contract. The loop's invariant: no byte of the set stands at any position passed. The measure is the positions that are
-- left.
use mathlib.Core.Path.{◌≡◌, sym, ◌∙◌}
use mathlib.Core.Logic.{⊎_elim}
use Prim.Native.Nat.{◌-◌}
use native.Mathlib.Omega.{arith}
use Rattle.charset.specs.Class.{has}
use Rattle.machine.specs.Laws.Extent.{takes-here, takes-past}
use Rattle.run_ends.proofs.Bytes.{missed_more}
use Rattle.run_ends.proofs.missed_ends.Goals as goal

pub loop-n-init : goal.loop-n-init
loop-n-init c = (omega arith, λ j h. absurd (omega arith))

pub returns-then-contains : goal.returns-then-contains
returns-then-contains c = c.loop-n.invariant

pub loop-n-preserved : goal.loop-n-preserved
loop-n-preserved c = let sub = c.args.sub.now in
    let f = has c.args.class.now in
    let i = c.args.high - c.loop-n.n in
    let none = ⊎_elim (λ w. takes-here sub f i w.if-i-sub.true ∙ sym w.contains.ensures ∙ w.if-contains.false) (λ w. takes-past sub f i w.if-i-sub.false) c.if-i-sub.branch-raw in
    (omega arith, missed_more sub f c.args.high c.loop-n.n c.loop-n.invariant.1 none)

pub returns : goal.returns
returns c =
    let e : c.loop-n.n ≡ c.args.most = omega (arith, c.loop-n-test.false, c.loop-n.invariant.0) in
    rw e at c.loop-n.invariant
