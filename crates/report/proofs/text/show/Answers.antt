-- The loop's invariant: the first i bytes are shown, and the others of `out` are as they were. It is a copy of so many bytes of the text.
use mathlib.Core.Path.{◌≡◌, refl, sym, ap, ◌∙◌}
use mathlib.Core.List.{List}
use Prim.Native.Nat.{ℕ, ◌<◌}
use native.Mathlib.Omega.{arith}
use native.Mathlib.Numerals.{add-one}
use lib.ListN.{length, length-set}
use lib.Seq.{paste, paste-zero}
use Rattle.report.specs.Text.{shown_byte, shown_text}
use Rattle.report.specs.Laws.Front.{front-more}
use Rattle.report.specs.Laws.Text.{shown-length, shown-at, shown-whole}
use Rattle.report.proofs.text.show.Goals as goal

pub loop-i-init : goal.loop-i-init
loop-i-init c = let a = c.args in
    (refl, paste-zero a.out.now 0 (shown_text a.line.now))

pub loop-i-preserved : goal.loop-i-preserved
loop-i-preserved c = let l = c.loop-i in
    let out₀ : List ℕ = c.args.out.now in
    let line : List ℕ = c.args.line.now in
    let k : l.i < length out₀ = omega arith in
    let m : l.i < length (shown_text line) = omega (arith, shown-length line) in
    let e = c.shown.ensures ∙ sym (shown-at line l.i) in (
      simp length-set l.invariant.0,
      rw (e, l.invariant.1, add-one l.i) (front-more out₀ (shown_text line) l.i (shown_byte 0) k m),
    )

pub shape_of-out : goal.shape_of-out
shape_of-out c = c.loop-i.invariant.0

pub returns : goal.returns
returns c = let a = c.args in
    let e : c.loop-i.i ≡ c.min-count.result = omega arith in (
      c.min-count.ensures,
      c.loop-i.invariant.1 ∙ ap (paste a.out.now 0 (shown_text a.line.now)) e ∙ shown-whole a.line.now a.out.now c.min-count.result c.min-count.ensures,
    )
