-- The loop's invariant: each row of this start that is the same is met from here on. Then it is met at once, or behind.
use mathlib.Core.Path.{◌≡◌, sym, ◌∙◌, ap}
use mathlib.Core.Bool.{true, false}
use Prim.Native.Nat.{◌+◌, ◌-◌}
use native.Mathlib.Nat.{le_refl}
use native.Mathlib.Omega.{arith}
use Rattle.syntax.specs.Limits.{row_length}
use Rattle.syntax.specs.Sets.{same_bytes}
use Rattle.index.specs.Rows.{row_of}
use Rattle.index.specs.Index.{bucket_of, head_of, next_of, row_at}
use Rattle.index.specs.Laws.Index.{sought-first, sought-next, sought-end, same_known}
use Rattle.index.proofs.index.find.Goals as goal

pub loop-at-init : goal.loop-at-init
unfolding head_of
loop-at-init c = let a = c.args in
    let p = c.requires.by_index in
    let e : c.place-at.result ≡ head_of a.index.now a.earlier (bucket_of a.heads p.0 (row_of a.start a.stop a.registers.now)) = c.place-at.ensures ∙ ap (head_of a.index.now a.earlier) p.1 in
    (le_refl (a.rows - a.earlier), rw e (sought-first p.2))

pub overflow_add-base : goal.overflow_add-base
unfolding row_length
overflow_add-base c = omega arith

pub overflow_mul-base : goal.overflow_mul-base
unfolding row_length
overflow_mul-base c = omega arith

pub same_row-requires : goal.same_row-requires
unfolding row_length
same_row-requires c = (omega arith, c.requires.earlier_le_rows.4)

pub returns-then-same_row : goal.returns-then-same_row
unfolding row_at row_length
returns-then-same_row c = let a = c.args in
    let x = row_of a.start a.stop a.registers.now in
    let same : same_bytes x (row_at a.results.now (a.earlier + c.loop-at.at)) ≡ true = sym c.same_row.ensures ∙ c.if-same_row.true in
    sym (same_known a.results.now a.earlier a.rows x c.loop-at.at (omega arith) same)

pub loop-at-preserved : goal.loop-at-preserved
unfolding next_of row_at row_length
loop-at-preserved c = let a = c.args in
    let l = c.loop-at in
    let differs : same_bytes (row_of a.start a.stop a.registers.now) (row_at a.results.now (a.earlier + l.at)) ≡ false = sym c.same_row.ensures ∙ c.if-same_row.false in
    (omega arith, rw c.place-at-in-loop-at.ensures (sought-next differs l.invariant.1))

pub returns : goal.returns
returns c = sym (sought-end (omega arith) c.loop-at.invariant.1)
