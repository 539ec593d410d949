-- The whole rule: one law for each return.
use mathlib.Core.Path.{◌∙◌}
use lib.ListN.{length-set}
use Rattle.std.proofs.lemmas.Result.{err_from_is_err_and}
use Rattle.reader.proofs.Whole.{enough, begins, names-none, whole-sound, whole-refused, whole-unopened}
use Rattle.reader.proofs.read_rule.Goals as goal

pub bounds-area-0 : goal.bounds-area-0
bounds-area-0 c = enough c.args.area.now c.requires.1

pub alternation-requires : goal.alternation-requires
alternation-requires c = let a = c.args in
    (begins a.rule.now a.area.now c.requires.0 c.requires.1, names-none a.rule.now a.table.now c.requires.2)

pub returns-in_err-inside : goal.returns-in_err-inside
returns-in_err-inside c = let a = c.args in
    let inner = c.alternation in
    let p = err_from_is_err_and c.from_residual.result c.from_residual.ensures.1 in
    rw (p.1, p.2) (whole-refused a.rule.now a.flags a.area.now _ a.table.now inner.new.table _ c.in_err-inside.ensures)

pub returns-then-peek-ne-END : goal.returns-then-peek-ne-END
returns-then-peek-ne-END c = let a = c.args in
    let inner = c.alternation in
    rw c.at.ensures (whole-unopened a.rule.now a.flags a.area.now _ a.table.now inner.new.table _ c.in_ok-inside.ensures c.peek.ensures c.if-peek-ne-END.true)

pub returns : goal.returns
returns c = let a = c.args in
    let inner = c.alternation in
    whole-sound a.rule.now a.flags a.area.now _ a.table.now inner.new.table _ c.in_ok-inside.ensures c.peek.ensures c.if-peek-ne-END.false c.requires.0 c.requires.1 (inner.auto.area ∙ simp length-set)
