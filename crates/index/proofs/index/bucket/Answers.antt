-- The loop's invariant: the hash is that of the end and the first i captures.
use mathlib.Core.Path.{◌≡◌, ◌∙◌}
use Prim.Native.Nat.{◌<◌}
use native.Mathlib.Omega.{arith}
use lib.ListN.{take}
use Rattle.syntax.specs.Limits.{spans_length}
use Rattle.index.specs.Index.{words, mix, mixed, bucket_of}
use Rattle.index.specs.Laws.Index.{mix-lt, mixed-more, mixed-lt, hash-row, scaled_fits, bucket-lt}
use Rattle.index.proofs.index.bucket.Goals as goal

pub loop-i-init : goal.loop-i-init
unfolding mixed
loop-i-init c = c.stir-h.ensures

pub offset_bounds-registers-i : goal.offset_bounds-registers-i
unfolding spans_length
offset_bounds-registers-i c = omega arith

pub loop-i-preserved : goal.loop-i-preserved
loop-i-preserved c = c.stir-h-in-loop-i.ensures ∙ mixed-more (mix 0 c.args.stop) c.args.registers.now c.loop-i.i (omega arith) c.loop-i.invariant

pub overflow_cast-result : goal.overflow_cast-result
unfolding words
overflow_cast-result c = omega (arith, mixed-lt (mix 0 c.args.stop) (take c.loop-i.i c.args.registers.now) (mix-lt 0 c.args.stop))

pub overflow_mul-result : goal.overflow_mul-result
overflow_mul-result c = let a = c.args in
    let word : c.loop-i.h < words = rw c.loop-i.invariant (mixed-lt (mix 0 a.stop) (take c.loop-i.i a.registers.now) (mix-lt 0 a.stop)) in
    omega (arith, scaled_fits c.loop-i.h a.heads word c.requires.1)

pub returns : goal.returns
unfolding bucket_of words
returns c = let a = c.args in
    let word : c.loop-i.h < words = rw c.loop-i.invariant (mixed-lt (mix 0 a.stop) (take c.loop-i.i a.registers.now) (mix-lt 0 a.stop)) in
    let all : c.loop-i.i ≡ a.spans = omega arith in
    let hash : c.loop-i.h ≡ mixed (mix 0 a.stop) (take a.spans a.registers.now) = rw all at c.loop-i.invariant in
    (bucket-lt c.loop-i.h a.heads c.requires.0 word, λ start. rw (hash-row a.spans start a.stop a.registers.now c.requires.2, hash))
