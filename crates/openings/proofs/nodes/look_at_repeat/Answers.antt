-- `look_at_repeat` meets its contract: each answer is the law of what the repeat decides as it is entered.
use native.Mathlib.Omega.{arith}
use Rattle.openings.specs.Laws.Nodes.{sees-owed, sees-none, sees-greedy, sees-lazy}
use Rattle.openings.proofs.nodes.look_at_repeat.Goals as goal

pub returns-then-code-pc-gt0 : goal.returns-then-code-pc-gt0
returns-then-code-pc-gt0 c = sees-owed c.args.code.now c.args.pc c.requires.1 c.if-code-pc-gt0.true

pub returns-then-code-pc-eq0 : goal.returns-then-code-pc-eq0
returns-then-code-pc-eq0 c = sees-none c.args.code.now c.args.pc c.requires.1 (omega arith) c.if-code-pc-eq0.true

pub returns-then-code-pc-eq0-2 : goal.returns-then-code-pc-eq0-2
returns-then-code-pc-eq0-2 c = sees-greedy c.args.code.now c.args.pc c.requires.1 (omega arith) c.if-code-pc-eq0.false c.if-code-pc-eq0-2.true

pub returns : goal.returns
returns c = sees-lazy c.args.code.now c.args.pc c.requires.1 (omega arith) c.if-code-pc-eq0.false c.if-code-pc-eq0-2.false
