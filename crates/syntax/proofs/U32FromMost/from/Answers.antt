use Rattle.syntax.specs.Limits.{unset}
use Rattle.syntax.specs.Compiled.{most_word}
use Rattle.syntax.proofs.U32FromMost.from.Goals as goal

pub returns-in-AtMost : goal.returns-in-AtMost
unfolding most_word
returns-in-AtMost c = rw c.in-AtMost.is

pub returns-in-Unlimited : goal.returns-in-Unlimited
unfolding most_word unset
returns-in-Unlimited c = rw c.in-Unlimited.is
