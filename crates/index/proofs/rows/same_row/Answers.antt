-- The start and the end are compared first, and the captures as parts of the two.
use mathlib.Core.Path.{◌≡◌, sym, ap, ◌∙◌}
use Prim.Native.Nat.{ℕ, ◌+◌, ◌-◌}
use lib.ListN.{take, drop}
use lib.Seq.{length-take-le}
use native.Mathlib.Nat.{add-zero}
use native.Mathlib.Omega.{arith}
use Rattle.syntax.specs.Limits.{spans_length, row_length}
use Rattle.syntax.specs.Sets.{same_bytes}
use Rattle.syntax.proofs.Same.{same-pointwise}
use Rattle.index.specs.Rows.{row_of}
use Rattle.index.specs.Laws.Rows.{row-differs, row-compared}
use Rattle.index.proofs.rows.same_row.Goals as goal

pub overflow_add-base : goal.overflow_add-base
unfolding row_length
overflow_add-base c = omega arith

pub offset_bounds-results-base : goal.offset_bounds-results-base
unfolding row_length
offset_bounds-results-base c = omega arith

pub bounds-results-base : goal.bounds-results-base
unfolding row_length
bounds-results-base c = omega arith

pub returns-then-results-base : goal.returns-then-results-base
unfolding row_length row_of
returns-then-results-base c = let a = c.args in
    sym (row-differs a.results.now a.base a.start a.stop a.registers.now 1 (omega arith) c.if-results-base.true)

pub offset_bounds-results-base-2 : goal.offset_bounds-results-base-2
unfolding row_length
offset_bounds-results-base-2 c = omega arith

pub bounds-results-base-2 : goal.bounds-results-base-2
unfolding row_length
bounds-results-base-2 c = omega arith

pub returns-then-results-base-2 : goal.returns-then-results-base-2
unfolding row_length row_of
returns-then-results-base-2 c = let a = c.args in
    sym (row-differs a.results.now a.base a.start a.stop a.registers.now 0 (omega arith) (rw add-zero c.if-results-base-2.true))

pub slice_bounds-eq-end : goal.slice_bounds-eq-end
unfolding spans_length
slice_bounds-eq-end c = sym (length-take-le 128 c.args.registers.now c.requires.1)

pub slice_bounds-eq-end-2 : goal.slice_bounds-eq-end-2
unfolding row_length
slice_bounds-eq-end-2 c = omega arith

pub returns : goal.returns
unfolding spans_length
returns c = let a = c.args in
    let n : a.base + 130 - (a.base + 2) ≡ 128 = omega arith in
    c.eq.ensures
    ∙ same-pointwise _ _
    ∙ ap (λ (k : ℕ). same_bytes (take 128 a.registers.now) (take k (drop (a.base + 2) a.results.now))) n
    ∙ sym (row-compared a.results.now a.base a.start a.stop a.registers.now c.requires.0 c.if-results-base-2.false c.if-results-base.false)
