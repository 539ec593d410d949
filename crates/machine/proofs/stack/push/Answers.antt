-- `push` meets its contract: four stores above the frames leave these alone, and make one more.
use mathlib.Core.Path.{refl}
use native.Mathlib.Omega.{arith}
use lib.ListN.{length-set}
use Rattle.machine.proofs.Frames.{push-cons, push-above}
use Rattle.machine.proofs.stack.push.Goals as goal

pub bounds-work-w-2 : goal.bounds-work-w-2
bounds-work-w-2 c = simp length-set (omega arith)

pub bounds-work-w-3 : goal.bounds-work-w-3
bounds-work-w-3 c = simp length-set (omega arith)

pub bounds-work-w-4 : goal.bounds-work-w-4
bounds-work-w-4 c = simp length-set (omega arith)

pub returns : goal.returns
returns c = (refl, push-cons c.args.work.now _ _ _ _ _ (omega arith), λ j h. push-above c.args.work.now _ _ _ _ _ j h)
