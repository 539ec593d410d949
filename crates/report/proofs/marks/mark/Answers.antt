-- The loop's invariant: the first i columns are marked, and the others as they were. It is a copy of so many of the marks.
use mathlib.Core.Path.{refl, sym, ◌∙◌}
use mathlib.Core.List.{List}
use Prim.Native.Nat.{ℕ, ◌≤◌, ◌<◌}
use native.Mathlib.Omega.{arith}
use native.Mathlib.Numerals.{add-one}
use lib.ListN.{length, length-set}
use lib.Seq.{paste-zero}
use Rattle.report.specs.Marks.{marks}
use Rattle.report.specs.Laws.Front.{front-more}
use Rattle.report.specs.Laws.Marks.{marks-length, marks-at, marks-whole}
use Rattle.report.proofs.marks.mark.Goals as goal

pub loop-i-init : goal.loop-i-init
loop-i-init c = let a = c.args in
    (refl, paste-zero a.out.now 0 (marks a.with a.from a.to a.column (length a.out.now)))

pub loop-i-preserved : goal.loop-i-preserved
loop-i-preserved c = let l = c.loop-i in
    let a = c.args in
    let out₀ : List ℕ = a.out.now in
    let ms : List ℕ = marks a.with a.from a.to a.column (length out₀) in
    let h : l.i < length out₀ = omega arith in
    let m : l.i < length ms = omega (arith, marks-length a.with a.from a.to a.column (length out₀)) in
    let e = c.sign.ensures ∙ sym (marks-at a.with a.from a.to a.column (length out₀) l.i h) in (
      simp length-set l.invariant.0,
      rw (e, l.invariant.1, add-one l.i) (front-more out₀ ms l.i 0 h m),
    )

pub shape_of-out : goal.shape_of-out
shape_of-out c = c.loop-i.invariant.0

pub returns : goal.returns
returns c = let a = c.args in
    let h : length a.out.now ≤ c.loop-i.i = omega arith in
    c.loop-i.invariant.1 ∙ marks-whole a.with a.from a.to a.column a.out.now _ h
