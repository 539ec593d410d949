-- `look` meets its contract: each answer is the law of the node's kind.
use native.Mathlib.Omega.{arith}
use Rattle.openings.specs.Laws.Nodes.{sees-byte, sees-text-start, sees-open, sees-close, sees-branch, sees-last}
use Rattle.openings.proofs.nodes.look.Goals as goal

pub returns-in-0 : goal.returns-in-0
returns-in-0 c = (omega arith, sees-byte c.args.code.now c.args.at c.in-0.is)

pub returns-else-code-pc-ne-TEXT_START : goal.returns-else-code-pc-ne-TEXT_START
returns-else-code-pc-ne-TEXT_START c = sees-text-start c.args.code.now c.args.at c.in-1.is c.if-code-pc-ne-TEXT_START.false

pub returns-in-3 : goal.returns-in-3
returns-in-3 c = sees-open c.args.code.now c.args.at c.in-3.is

pub returns-in-4 : goal.returns-in-4
returns-in-4 c = sees-close c.args.code.now c.args.at c.in-4.is

pub returns-in-5 : goal.returns-in-5
returns-in-5 c = sees-branch c.args.code.now c.args.at c.in-5.is

pub returns-in-6 : goal.returns-in-6
returns-in-6 c = sees-last c.args.code.now c.args.at c.in-6.is
