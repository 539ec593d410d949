-- `compile` meets its contract: what stands in the part that is lent on and in the table stands in the whole area, whose rest is as it was.
use mathlib.Core.Path.{◌≡◌, sym, subst, ◌∙◌}
use mathlib.Core.List.{List}
use Prim.Native.Nat.{ℕ, ◌≤◌}
use native.Mathlib.Omega.{arith}
use lib.ListN.{length, length-take}
use Rattle.syntax.specs.Limits.{group_limit, rule_area_need, spans_length}
use Rattle.reader.specs.Areas.{table_start}
use Rattle.reader.specs.Compiles.{Compiles}
use Rattle.reader.proofs.Compilations.{back_long, part-wide, wider, is-joined, back-joined}
use Rattle.reader.proofs.compiling.compile.Goals as goal

pub slice_bounds-compile_into-end : goal.slice_bounds-compile_into-end
unfolding rule_area_need
slice_bounds-compile_into-end c = omega arith

pub slice_bounds-compile_into-end-2 : goal.slice_bounds-compile_into-end-2
unfolding rule_area_need
slice_bounds-compile_into-end-2 c = simp length-take (omega arith)

pub compile_into-compiled-requires : goal.compile_into-compiled-requires
unfolding table_start rule_area_need spans_length group_limit
compile_into-compiled-requires c = (omega arith, simp length-take (omega arith), omega arith)

pub slice_bounds-copy_from_slice-end : goal.slice_bounds-copy_from_slice-end
unfolding table_start rule_area_need spans_length group_limit
slice_bounds-copy_from_slice-end c = let a = c.args in
    let into = c.compile_into-compiled in
    let long : length into.new.area ≡ table_start = into.auto.area ∙ simp length-take (omega (arith, c.requires.1)) in
    subst (λ (n : ℕ). rule_area_need ≤ n) (sym (back_long into.new.area a.area.now long c.requires.1)) c.requires.1

pub copy_from_slice-requires : goal.copy_from_slice-requires
unfolding table_start rule_area_need spans_length group_limit
copy_from_slice-requires c = let a = c.args in
    let into = c.compile_into-compiled in
    let long : length into.new.area ≡ table_start = into.auto.area ∙ simp length-take (omega (arith, c.requires.1)) in
    part-wide into.new.area a.area.now long c.requires.1 ∙ sym into.auto.table

pub shape_of-area : goal.shape_of-area
unfolding table_start rule_area_need spans_length group_limit
shape_of-area c = let a = c.args in
    let into = c.compile_into-compiled in
    let long : length into.new.area ≡ table_start = into.auto.area ∙ simp length-take (omega (arith, c.requires.1)) in
    rw c.copy_from_slice.ensures.after (back-joined a.checked a.rule.now a.flags a.area.now into.new.area into.new.table long into.auto.table c.requires.1)

pub returns : goal.returns
unfolding table_start rule_area_need spans_length group_limit
returns c = let a = c.args in
    let into = c.compile_into-compiled in
    let long : length into.new.area ≡ table_start = into.auto.area ∙ simp length-take (omega (arith, c.requires.1)) in
    rw c.copy_from_slice.ensures.after (subst (λ (l : List ℕ). Compiles a.checked a.rule.now a.flags a.area.now l into.result) (sym (is-joined a.checked a.rule.now a.flags a.area.now into.new.area into.new.table long into.auto.table c.requires.1))
    (wider a.checked a.rule.now a.flags a.area.now into.new.area into.new.table long into.auto.table c.requires.1 into.result into.ensures))
