-- `begin_last_branch` meets its contract: the node only goes on.
use mathlib.Core.Path.{refl}
use Rattle.machine.specs.Moves.{carry_out}
use Rattle.nodes.proofs.begin_last_branch.Goals as goal

pub returns : goal.returns
unfolding carry_out
returns c = λ sub regs work. refl
