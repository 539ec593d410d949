-- `keep_undo` meets its contract: a choice is passed over, and any other frame is pushed again, lower down.
use mathlib.Core.Path.{refl, sym, ◌∙◌}
use native.Mathlib.Omega.{arith}
use Rattle.machine.specs.Words.{frame_at}
use Rattle.machine.proofs.Frames.{keep-choice, keep-undone}
use Rattle.machine.proofs.stack.keep_undo.Goals as goal

pub returns-then-kind-lt-UNDO : goal.returns-then-kind-lt-UNDO
returns-then-kind-lt-UNDO c = (omega arith, sym (keep-choice c.args.work.now c.args.i _ c.if-kind-lt-UNDO.true), λ j l. refl)

pub returns : goal.returns
unfolding frame_at
returns c = let e = c.push.ensures in
    (omega (arith, e.0), rw e.0 (e.1 ∙ sym (keep-undone c.args.work.now c.args.i _ c.if-kind-lt-UNDO.false)), λ j l. e.2 j (omega (arith, c.requires)))
