-- `posix_member` meets its contract, by whether the name is known and whether a `^` stands before it.
use Rattle.escapes.proofs.NameCases.{posix-unknown, posix-not, posix-is}
use Rattle.escapes.proofs.names.posix_member.Goals as goal

pub returns-in_default : goal.returns-in_default
returns-in_default c = rw c.at.ensures (posix-unknown _ _ _ _ c.in_default.is)

pub returns-then-negated : goal.returns-then-negated
returns-then-negated c = posix-not _ _ _ _ _ c.in-Some.is c.if-negated.true

pub returns : goal.returns
returns c = posix-is _ _ _ _ _ c.in-Some.is c.if-negated.false
