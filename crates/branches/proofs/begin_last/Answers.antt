-- `begin_last` meets its contract: it stays where it is, or one node leads on, which is in range as its kind says.
use native.Mathlib.Omega.{arith}
use Rattle.machine.specs.Laws.Code.{fits-at}
use Rattle.branches.proofs.Branching.{onward-here, onward-last}
use Rattle.branches.proofs.begin_last.Goals as goal

pub returns-then-used-left : goal.returns-then-used-left
returns-then-used-left c = onward-here c.args.code.now c.args.m c.args.pc c.args.used c.args.left c.come_to.result c.requires.0 c.come_to.ensures

pub bounds-code-here : goal.bounds-code-here
bounds-code-here c = c.requires.2.here

pub returns-then-code-here-ne-LAST : goal.returns-then-code-here-ne-LAST
returns-then-code-here-ne-LAST c = onward-here c.args.code.now c.args.m c.args.pc c.args.used c.args.left c.come_to-then-code-here-ne-LAST.result c.requires.0 c.come_to-then-code-here-ne-LAST.ensures

pub bounds-code-here-2 : goal.bounds-code-here-2
bounds-code-here-2 c = omega (arith, fits-at c.args.code.now c.args.pc 6 c.if-code-here-ne-LAST.false c.requires.2)

pub returns : goal.returns
returns c = onward-last c.args.code.now c.args.m c.args.pc c.args.used c.args.left c.come_to-2.result (omega (arith, c.requires.0, c.if-used-left.false)) c.if-code-here-ne-LAST.false c.come_to-2.ensures
