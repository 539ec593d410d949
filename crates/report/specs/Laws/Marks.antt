-- Facts about the marks.
use Rattle.std.specs.Prelude.{◌≡◌, refl, List, ℕ, zero, suc, ◌+◌, ◌≤◌, ◌<◌, length, get_or}
use Rattle.std.proofs.Common.{sym, ap, ◌∙◌, append-nil, zero-add, add-zero, add-suc, suc-add, le_of_suc-le-suc, not-suc-le-zero, arith, drop_of_length-le, take_all}
use Rattle.std.proofs.Math.Seq.{paste}
use Rattle.report.specs.Marks.{mark_under, marks}

pub marks-length : (mark from to column n : ℕ) → length (marks mark from to column n) ≡ n
unfolding marks
marks-length mark from to column zero = refl
marks-length mark from to column (suc n) = ap suc (marks-length mark from to (suc column) n)

pub marks-at : (mark from to column n i : ℕ) → i < n → get_or (marks mark from to column n) i 0 ≡ mark_under mark from to (column + i)
unfolding marks
marks-at mark from to column zero i h = absurd (not-suc-le-zero h)
marks-at mark from to column (suc n) zero h = rw add-zero
marks-at mark from to column (suc n) (suc i) h = marks-at mark from to (suc column) n i (le_of_suc-le-suc h) ∙ ap (mark_under mark from to) (suc-add column i ∙ sym (add-suc column i))

-- what stands in a window after all of its columns were marked
pub marks-whole : (mark from to column : ℕ) (out : List ℕ) (n : ℕ) → length out ≤ n → paste out 0 (marks mark from to column (length out)) n ≡ marks mark from to column (length out)
marks-whole mark from to column out n h =
    let ms : List ℕ = marks mark from to column (length out) in
    let l : length ms ≤ n = omega (arith, marks-length mark from to column (length out)) in
    rw (zero-add n, take_all n ms l, drop_of_length-le out h) (append-nil ms)
