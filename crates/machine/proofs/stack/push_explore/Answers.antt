-- `push_explore` meets its contract: three stores above the frames leave these alone, and make one more.
use mathlib.Core.Path.{refl}
use native.Mathlib.Omega.{arith}
use lib.ListN.{length-set}
use Rattle.machine.proofs.Frames.{push-node}
use Rattle.machine.proofs.stack.push_explore.Goals as goal

pub bounds-work-w-2 : goal.bounds-work-w-2
bounds-work-w-2 c = simp length-set (omega arith)

pub bounds-work-w-3 : goal.bounds-work-w-3
bounds-work-w-3 c = simp length-set (omega arith)

pub returns : goal.returns
returns c = (refl, push-node c.args.work.now _ _ _ (omega arith))
