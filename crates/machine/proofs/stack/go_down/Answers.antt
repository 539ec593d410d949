-- `go_down` meets its contract: the positions below are pushed, if there are any.
use Rattle.machine.proofs.Frames.{down-some, down-none}
use Rattle.machine.proofs.stack.go_down.Goals as goal

pub returns-then-low-high : goal.returns-then-low-high
returns-then-low-high c = λ regs. down-some _ _ _ regs _ _ _ _ c.if-low-high.true c.push-h.ensures.0 c.push-h.ensures.1

pub returns : goal.returns
returns c = λ regs. down-none _ _ _ regs _ c.if-low-high.false
