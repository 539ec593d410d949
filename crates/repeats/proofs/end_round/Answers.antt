-- `end_round` meets its contract: the repeat's registers have the rounds and where the last one began.
use mathlib.Core.Path.{◌∙◌}
use Prim.Native.Nat.{◌+◌}
use Rattle.machine.specs.Moves.{carry_out}
use Rattle.machine.specs.Words.{stack_of}
use Rattle.repeats.proofs.Decisions.{ends_as}
use Rattle.repeats.proofs.end_round.Goals as goal

pub returns : goal.returns
unfolding carry_out
returns c = let k = c.counter_of-k in
    λ sub. c.decide.ensures ∙ ends_as c.args.code.now (c.args.m.pc + 1) c.args.m.at c.args.regs.now (stack_of c.args.work.now c.args.m.height) k.result k.ensures.0 k.ensures.1
