-- `start` meets its contract: a stack of no frames is empty.
use mathlib.Core.Path.{refl}
use Rattle.machine.specs.Words.{stack_of}
use Rattle.machine.proofs.start.Goals as goal

pub returns : goal.returns
unfolding stack_of
returns c = λ regs work. refl
