-- `class_at` meets its contract: the loop copies the eight words of the class.
use mathlib.Core.Path.{refl, ap, sym, ◌∙◌}
use Prim.Native.Nat.{ℕ, ◌%◌}
use native.Mathlib.Omega.{arith}
use lib.ListN.{drop}
use lib.Seq.{get_or-drop}
use Rattle.charset.specs.Class.{bit}
use Rattle.charset.proofs.Words.{word, start, step, end}
use Rattle.openings.proofs.finding.class_at.Goals as goal

pub loop-i-init : goal.loop-i-init
loop-i-init c = start _ _ refl

pub loop-i-preserved : goal.loop-i-preserved
loop-i-preserved c = step _ c.loop-i.class c.loop-i.i _ (omega arith) c.loop-i.invariant (λ x h q. ap (λ (w : ℕ). bit w (x % 32)) (sym (get_or-drop c.args.base c.args.code.now c.loop-i.i 0)) ∙ word (drop c.args.base c.args.code.now) c.loop-i.i x q)

pub returns : goal.returns
returns c = end _ c.loop-i.class c.loop-i.i (omega arith) c.loop-i.invariant
