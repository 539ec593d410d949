-- `add_class` meets its contract: the loop has made the words below `i`, and each is the or of the two words at its place.
use mathlib.Core.Path.{refl, ◌∙◌}
use Prim.Native.Nat.{◌%◌}
use native.Mathlib.Omega.{arith}
use lib.ListN.{get_or}
use Rattle.charset.proofs.Bits.{or-bit}
use Rattle.charset.proofs.Words.{start, step, end, word}
use Rattle.charset.proofs.add_class.Goals as goal

pub loop-i-init : goal.loop-i-init
loop-i-init c = start _ _ refl

pub loop-i-preserved : goal.loop-i-preserved
loop-i-preserved c = let l = c.loop-i in
    let a = c.args.class in
    let b = c.args.other in
    step _ l.c l.i _ (omega arith) l.invariant
    (λ x h q. or-bit (get_or a l.i 0) (get_or b l.i 0) (x % 32) ∙ rw (word a l.i x q, word b l.i x q))

pub returns : goal.returns
returns c = end _ c.loop-i.c c.loop-i.i (omega arith) c.loop-i.invariant
