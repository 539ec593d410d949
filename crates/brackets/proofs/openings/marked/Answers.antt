-- By the byte behind `(?`: one law for each return.
use native.Mathlib.Omega.{arith}
use Rattle.syntax.specs.Limits.{group_limit}
use Rattle.brackets.proofs.Heads.{bracket-plain, bracket-held, bracket-ahead, bracket-not-ahead, bracket-unknown, bracket-named, named-many}
use Rattle.brackets.proofs.openings.marked.Goals as goal

pub returns-then-opened-lt-GROUP_LIMIT : goal.returns-then-opened-lt-GROUP_LIMIT
unfolding group_limit
returns-then-opened-lt-GROUP_LIMIT c = λ s p q. bracket-named c.args.at c.args.opened p q c.in-60.is c.if-opened-lt-GROUP_LIMIT.true

pub returns-in-60 : goal.returns-in-60
unfolding group_limit
returns-in-60 c = λ s p q. rw c.at.ensures (named-many c.args.at c.args.opened p q c.in-60.is c.if-opened-lt-GROUP_LIMIT.false)

pub returns-in-58 : goal.returns-in-58
returns-in-58 c = λ s p q. bracket-plain c.args.at c.args.opened p q c.in-58.is

pub returns-in-62 : goal.returns-in-62
returns-in-62 c = λ s p q. bracket-held c.args.at c.args.opened p q c.in-62.is

pub returns-in-61 : goal.returns-in-61
returns-in-61 c = λ s p q. bracket-ahead c.args.at c.args.opened p q c.in-61.is

pub returns-in-33 : goal.returns-in-33
returns-in-33 c = λ s p q. bracket-not-ahead c.args.at c.args.opened p q c.in-33.is

pub returns-in_default : goal.returns-in_default
returns-in_default c = λ s p q. rw c.at-in_default.ensures (bracket-unknown c.args.at c.args.opened p q (λ e. omega arith) (λ e. omega arith) (λ e. omega arith) (λ e. omega arith) (λ e. omega arith))
