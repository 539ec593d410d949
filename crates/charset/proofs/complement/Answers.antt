-- `complement` meets its contract: the loop has made the words below `i`, and each is the word at its place with each bit flipped.
use mathlib.Core.Path.{refl, ◌∙◌}
use Prim.Native.Nat.{◌%◌}
use native.Mathlib.Omega.{arith}
use borrow.Author.Rules.{rules}
use mir.Val.{Fits}
use mir.Syntax.{w32}
use lib.ListN.{get_or}
use Rattle.charset.proofs.Bits.{not-bit}
use Rattle.charset.proofs.Words.{start, step, end, word}
use Rattle.charset.proofs.complement.Goals as goal

pub loop-i-init : goal.loop-i-init
loop-i-init c = start _ _ refl

pub loop-i-preserved : goal.loop-i-preserved
loop-i-preserved c = let l = c.loop-i in
    let a = c.args.class in
    let fits : Fits w32 (get_or a l.i 0) = search rules in
    step _ l.c l.i _ (omega arith) l.invariant
    (λ x h q. not-bit 32 (get_or a l.i 0) (x % 32) (omega arith) fits.fits ∙ rw (word a l.i x q))

pub returns : goal.returns
returns c = end _ c.loop-i.c c.loop-i.i (omega arith) c.loop-i.invariant
