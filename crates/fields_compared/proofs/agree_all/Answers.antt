-- The loop's invariant: what is asked of all columns is asked of those that are left.
use mathlib.Core.Path.{◌≡◌, sym, ◌∙◌}
use Prim.Native.Nat.{◌-◌}
use native.Mathlib.Omega.{arith}
use native.Mathlib.Numerals.{add-one}
use Rattle.fields_compared.specs.Laws.Comparing.{agree_on, agree-not, agree-end}
use Rattle.fields_compared.proofs.agree_all.Goals as goal

pub loop-i-init : goal.loop-i-init
loop-i-init c = let e : c.args.count - 0 ≡ c.args.count = omega arith in rw e

pub column-requires : goal.column-requires
column-requires c = (omega (arith, c.requires.few), c.requires.fits)

pub returns-then-not-agree_on : goal.returns-then-not-agree_on
returns-then-not-agree_on c = let a = c.args in
    let l = c.loop-i in
    let e = sym (rw c.column.ensures at c.agree_on.ensures) ∙ c.if-not-agree_on.true in
    sym (l.invariant ∙ agree-not a.names.now a.line.now a.standing.now a.columns.now a.x.now a.y.now l.i a.count (omega arith) e)

pub loop-i-preserved : goal.loop-i-preserved
loop-i-preserved c = let a = c.args in
    let l = c.loop-i in
    let e = sym (rw c.column.ensures at c.agree_on.ensures) ∙ c.if-not-agree_on.false in
    rw (add-one l.i) (l.invariant ∙ agree_on a.names.now a.line.now a.standing.now a.columns.now a.x.now a.y.now l.i a.count (omega arith) e)

pub returns : goal.returns
returns c = let a = c.args in
    let l = c.loop-i in
    sym (l.invariant ∙ agree-end a.names.now a.line.now a.standing.now a.columns.now a.x.now a.y.now l.i a.count (omega arith))
