-- `branch_off` meets its contract: the frame pushed is the node that is kept.
use mathlib.Core.Path.{refl}
use Rattle.machine.proofs.Frames.{go-pushed}
use Rattle.branches.proofs.branch_off.Goals as goal

pub returns : goal.returns
returns c = (refl, λ regs. go-pushed _ _ _ _ regs _ c.push_explore-h.ensures.0 c.push_explore-h.ensures.1)
