-- The loop's invariant: as long as no 0A was met, the bytes so far belong to the line.
use mathlib.Core.Path.{◌≡◌}
use native.Mathlib.Omega.{arith}
use Rattle.text.specs.Laws.Lines.{block-begins, block_on}
use Rattle.text.proofs.ends_within.Goals as goal

pub loop-i-init : goal.loop-i-init
loop-i-init c = let a = c.args in (omega arith, λ e. block-begins a.input.now a.from)

pub loop-i-preserved : goal.loop-i-preserved
loop-i-preserved c = let l = c.loop-i in
    let a = c.args in
    (omega arith, λ e. (let m = c.met-found.ensures e in block_on a.input.now a.from l.i (omega arith) m.0 (l.invariant.1 m.1)))

pub returns : goal.returns
returns c = let l = c.loop-i in
    let k : l.i ≡ 16 = omega (arith, l.invariant.0, c.loop-i-test.false) in
    rw k at l.invariant.1
