-- Behind the blocks that are skipped, the loop's invariant: the line that begins where the loop stands ends where the whole line does.
use Rattle.std.proofs.Common.{sym, arith, add-one}
use Rattle.text.specs.Lines.{newline}
use Rattle.text.specs.Laws.Lines.{ended, goes_on, out}
use Rattle.text.proofs.line_end.Goals as goal

pub loop-i-init : goal.loop-i-init
loop-i-init c = (omega arith, sym c.skip_blocks-first.ensures)

pub returns-then-input-i-eq-NEWLINE : goal.returns-then-input-i-eq-NEWLINE
unfolding newline
returns-then-input-i-eq-NEWLINE c = let a = c.args in
    let i = c.loop-i.i in
    omega (arith, ended a.input.now i (omega arith) c.if-input-i-eq-NEWLINE.true)

pub loop-i-preserved : goal.loop-i-preserved
unfolding newline
loop-i-preserved c = let a = c.args in
    let i = c.loop-i.i in
    (omega arith, rw (add-one i) (omega (arith, c.loop-i.invariant.1, goes_on a.input.now i (omega arith) c.if-input-i-eq-NEWLINE.false)))

pub returns : goal.returns
returns c = omega (arith, out c.args.input.now c.loop-i.i (omega arith))
