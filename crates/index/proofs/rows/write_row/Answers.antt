-- The captures are copied behind the start and the end.
use mathlib.Core.Path.{◌≡◌, ap, sym, ◌∙◌}
use mathlib.Core.List.{List, ◌++◌}
use Prim.Native.Nat.{ℕ, ◌+◌, ◌-◌}
use native.Mathlib.Omega.{arith}
use lib.ListN.{length, set, take, drop, length-set, length-drop}
use lib.Seq.{length-take-le, take-length}
use Rattle.std.proofs.lemmas.Slice.{put_mid-paste}
use Rattle.syntax.specs.Limits.{spans_length, row_length}
use Rattle.index.specs.Laws.Rows.{row-stored}
use Rattle.index.proofs.rows.write_row.Goals as goal

pub offset_bounds-results-base : goal.offset_bounds-results-base
unfolding row_length
offset_bounds-results-base c = omega arith

pub bounds-results-base : goal.bounds-results-base
unfolding row_length
bounds-results-base c = omega arith

pub overflow_add-results : goal.overflow_add-results
unfolding row_length
overflow_add-results c = omega arith

pub offset_bounds-results-base-2 : goal.offset_bounds-results-base-2
unfolding row_length
offset_bounds-results-base-2 c = omega arith

pub bounds-results-base-2 : goal.bounds-results-base-2
unfolding row_length
bounds-results-base-2 c = simp length-set (omega arith)

pub slice_bounds-copy_from_slice-end : goal.slice_bounds-copy_from_slice-end
unfolding row_length
slice_bounds-copy_from_slice-end c = simp length-set (omega arith)

pub slice_bounds-copy_from_slice-end-2 : goal.slice_bounds-copy_from_slice-end-2
unfolding spans_length
slice_bounds-copy_from_slice-end-2 c = sym (length-take-le 128 c.args.registers.now c.requires.1)

pub copy_from_slice-requires : goal.copy_from_slice-requires
unfolding row_length spans_length
copy_from_slice-requires c = let a = c.args in
    let d : List ℕ = set (set a.results.now a.base a.start) (a.base + 1) a.stop in
    let e : length d ≡ length a.results.now = simp length-set in
    length-take-le (a.base + 130 - (a.base + 2)) (drop (a.base + 2) d) (simp length-drop (omega arith)) ∙ (omega arith ∙ sym (length-take-le 128 a.registers.now (omega arith)))

pub returns : goal.returns
unfolding spans_length
returns c = let a = c.args in
    let d : List ℕ = set (set a.results.now a.base a.start) (a.base + 1) a.stop in
    let t : length (take 128 a.registers.now) ≡ 128 = length-take-le 128 a.registers.now c.requires.1 in
    put_mid-paste (a.base + 2) _ d _ (take 128 a.registers.now) 128 c.copy_from_slice.ensures.after (omega arith) (sym t)
    ∙ ap (λ (l : List ℕ). take (a.base + 2) d ++ l ++ drop (a.base + 2 + 128) d) (ap (λ (k : ℕ). take k (take 128 a.registers.now)) (sym t) ∙ take-length (take 128 a.registers.now))
    ∙ row-stored a.results.now a.base a.start a.stop a.registers.now c.requires.0
